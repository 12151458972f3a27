-- What the lines of a run text admit as its start (01, "Run text", 53, 57, 58, 60), and what every state of a run keeps of it.
-- Assumes nothing.
use Rattle.std.specs.Prelude.{ℕ, ◌≤◌, ◌<◌, ◌≡◌, List, [], ◌∷◌, length}
use Rattle.meaning.specs.Lists.{In}
use Rattle.meaning.specs.Tables.{Package}
use Rattle.meaning.specs.Trust.{Subtype}
use Rattle.runs.specs.Machine.{Object, Link, Label, Saved, State, Step, widen, new, checkcast, getstatic, putstatic, getfield, putfield, invokestatic, invokemethod, return, no_owner, object}
use Rattle.runs.specs.Run.{Placed}

-- the class of the object r is a subtype of c
pub record IsA (P : Package) (os : List Object) (r c : ℕ) : Type 0 where
  pub class : ℕ
  pub object : In (object r class) os
  pub below : Subtype P class c

-- a declared field has this class, type and static byte
abbrev pub FieldOf : Package → ℕ → ℕ → ℕ → Type 0
FieldOf P c t s = In (record { class = c; type = t; static = s }) P.fields

-- some declared field fits a link, its type is a supertype of its target's class, and its declaring class one of its owner's
pub data TypedLink (P : Package) (os : List Object) : Link → Type 0 where
  of_class : {c t q : ℕ} → FieldOf P c t 1 → IsA P os q t → TypedLink P os (record { owner = no_owner; declared = c; type = t; target = q })
  of_object : {p c t q : ℕ} → FieldOf P c t 0 → IsA P os p c → IsA P os q t → TypedLink P os (record { owner = p; declared = c; type = t; target = q })

-- a label is a supertype of its object's class
abbrev pub TypedLabels : Package → List Object → List Label → Type 0
TypedLabels P os ls = (l : Label) → In l ls → IsA P os l.ref l.type

-- references are 00 to FE
abbrev pub Reference : ℕ → Type 0
Reference r = r < 0xFF

-- every number is an instance of exactly one declared class
pub record Objects (P : Package) (os : List Object) : Type 0 where
  pub references : (o : Object) → In o os → Reference o.ref
  pub classes : (o : Object) → In o os → o.class < length P.classes
  pub once : (o o' : Object) → In o os → In o' os → o.ref ≡ o'.ref → o ≡ o'

pub record Typed (P : Package) (s : State) : Type 0 where
  pub objects : Objects P s.pool
  pub links : (k : Link) → In k s.links → TypedLink P s.pool k
  pub labels : TypedLabels P s.pool s.labels
  pub saved : (k : Saved) → In k s.saved → TypedLabels P s.pool k.labels

-- at most 256 links, 32 labels a frame, 16 saved frames
pub record Within (s : State) : Type 0 where
  pub links : length s.links ≤ 256
  pub labels : length s.labels ≤ 32
  pub saved : length s.saved ≤ 16
  pub frames : (k : Saved) → In k s.saved → length k.labels ≤ 32

-- an admitted start
pub record Admitted (P : Package) (s : State) : Type 0 where
  pub entry : s.method < length P.methods
  pub bottom : s.saved ≡ []
  pub typed : Typed P s
  pub within : Within s

-- ---- the references that a step names: none is FF but in 29

abbrev pub references_of : Step → List ℕ
references_of (widen r b) = r ∷ []
references_of (new r b) = r ∷ []
references_of (checkcast r b) = r ∷ []
references_of (getstatic f q) = q ∷ []
references_of (putstatic f q) = q ∷ []
references_of (getfield f p q) = p ∷ q ∷ []
references_of (putfield f p q) = p ∷ q ∷ []
references_of (invokestatic n rs) = rs
references_of (invokemethod n v r rs) = r ∷ rs
references_of (return r) = []

abbrev pub ProperStep : Step → Type 0
ProperStep k = (r : ℕ) → In r (references_of k) → Reference r

abbrev pub Proper : List Placed → Type 0
Proper ks = (k : Placed) → In k ks → ProperStep k.step
