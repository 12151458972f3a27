-- What a run state holds: `runs`' holdings, in their order, of a state as the machine shows it.
-- Assumes nothing.
use Rattle.std.specs.Prelude.{ℕ, List, [], ◌∷◌, ◌++◌, map}
use Rattle.meaning.specs.Lists.{In}
use Rattle.meaning.specs.Tables.{Package, home, owner_of}
use Rattle.runs.specs.Holdings.{Holding, holding, Bytes}
use Rattle.machine.specs.declared.label.Label.{Label}
use Rattle.machine.specs.declared.link.Link.{Link}
use Rattle.machine.specs.Snapshot.{SavedFrame, Snapshot}

abbrev pub labelled : ℕ → Label → Holding
labelled domain l = holding domain l.object l.class

abbrev pub linked : Package → Link → Holding
linked P k = holding (home P k.declared) k.target k.typ

-- a method's frame
abbrev pub framed : Package → ℕ → List Label → List Holding
framed P m labels = map (labelled (home P (owner_of P m))) labels

abbrev pub saved_held : Package → List SavedFrame → List Holding
saved_held P [] = []
saved_held P (frame ∷ frames) = framed P frame.method frame.labels ++ saved_held P frames

-- the running frame's, then those of the saved ones, then those of the links
abbrev pub held : Package → Snapshot → List Holding
held P s = framed P s.method s.labels ++ (saved_held P s.saved ++ map (linked P) s.links)

abbrev pub AllBytes : List Holding → Type 0
AllBytes hs = (h : Holding) → In h hs → Bytes h
