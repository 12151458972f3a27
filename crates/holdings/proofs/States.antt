-- What is held of a state of the machine is what the definitions say of it.
-- Assumes nothing.
use Rattle.std.proofs.Common.{◌≡◌, ℕ, List, [], ◌∷◌, ◌++◌, map, refl, sym, ap, ap₂}
use Rattle.meaning.specs.Tables.{Package, home, owner_of}
use Rattle.runs.specs.Machine as M
use Rattle.runs.specs.Holdings.{Holding, of_label, of_saved, of_link, holdings, shown, sorted, text_of, holdings_text}
use Rattle.machine.specs.declared.label.Label.{Label}
use Rattle.machine.specs.declared.link.Link.{Link}
use Rattle.machine.specs.Snapshot.{SavedFrame, Snapshot}
use Rattle.machine.specs.Definitions.{label_view, link_view, frame_view, state_view, snapshot_from}
use Rattle.machine.proofs.Back.{state-back}
use Rattle.holdings.specs.Held.{labelled, framed, saved_held, linked, held}

module _ (P : Package) where
  framed-is : (m : ℕ) (ls : List Label) → map (of_label P m) (map label_view ls) ≡ framed P m ls
  unfolding of_label
  framed-is m [] = refl
  framed-is m (l ∷ ls) = ap (λ (hs : List Holding). labelled (home P (owner_of P m)) l ∷ hs) (framed-is m ls)

  linked-is : (ks : List Link) → map (of_link P) (map link_view ks) ≡ map (linked P) ks
  unfolding of_link
  linked-is [] = refl
  linked-is (k ∷ ks) = ap (λ (hs : List Holding). linked P k ∷ hs) (linked-is ks)

  saved-is : (fs : List SavedFrame) → of_saved P (map frame_view fs) ≡ saved_held P fs
  unfolding of_saved
  saved-is [] = refl
  saved-is (f ∷ fs) = ap₂ (λ (xs ys : List Holding). xs ++ ys) (framed-is f.method f.labels) (saved-is fs)

  pub held-holdings : (s : Snapshot) → holdings P (state_view s) ≡ held P s
  unfolding holdings
  held-holdings s = ap₂ (λ (x y : List Holding). x ++ y) (framed-is s.method s.labels) (ap₂ (λ (x y : List Holding). x ++ y) (saved-is s.saved) (linked-is s.links))

  pub shown-text : (s : Snapshot) → text_of (sorted (held P s)) ≡ holdings_text P (state_view s)
  unfolding holdings_text shown
  shown-text s = ap (λ (hs : List Holding). text_of (sorted hs)) (sym (held-holdings s))

  -- the text of a state of the definitions is that of what the machine makes of it
  pub text-from : (s : M.State) → holdings_text P (state_view (snapshot_from s)) ≡ holdings_text P s
  unfolding holdings_text shown holdings
  text-from s = ap (holdings_text P) (state-back s)
