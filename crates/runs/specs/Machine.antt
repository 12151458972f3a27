-- The machine (01, "Run text"; 003, Figs. 3 and 4): its state, its steps, and the rules of Fig. 4 as a relation with 01's differences.
-- The limits of 01 stand apart, in `Room`. What computes the same is in Steps.antt.
-- Assumes nothing.
use Rattle.std.specs.Prelude.{ℕ, ◌<◌, ◌≡◌, ◌⊎◌, Bool, ◌&&◌, cond, List, [], ◌∷◌, ◌++◌, eqb, length}
use Rattle.std.proofs.Math.Option.{Option, none, some}
use Rattle.meaning.specs.Lists.{In, any}
use Rattle.meaning.specs.Tables.{Package, owner_of, result_of, params_of, field_class, field_type}
use Rattle.meaning.specs.Trust.{Subtype, Overrides}

-- ---- Fig. 3: ⟨Π, Γ; Φ, A.m, σ⟩

-- an object in the pool Π, r : C
pub record Object : Type 0 where
  pub ref : ℕ
  pub class : ℕ

-- a link in Γ: of an object, p : B ⇝ q : C, or of a static field, B ⇝ q : C. The owner of a static link is FF, which is no reference
pub record Link : Type 0 where
  pub owner : ℕ
  pub declared : ℕ
  pub type : ℕ
  pub target : ℕ

-- a labelled reference in a frame Φ, r : C
pub record Label : Type 0 where
  pub ref : ℕ
  pub type : ℕ

-- push(Φ, A.m, C, σ): a saved frame, its method, and the pending return type, none where the called method has none
pub record Saved : Type 0 where
  pub method : ℕ
  pub pending : Option ℕ
  pub labels : List Label

-- the newest saved frame comes first
pub record State : Type 0 where
  pub pool : List Object
  pub links : List Link
  pub labels : List Label
  pub method : ℕ
  pub saved : List Saved

abbrev pub no_owner : ℕ
no_owner = 0xFF

abbrev pub nothing : ℕ
nothing = 0xFF

abbrev pub object : ℕ → ℕ → Object
object r c = record { ref = r; class = c }

abbrev pub label : ℕ → ℕ → Label
label r c = record { ref = r; type = c }

-- ---- the steps, with the numbers of their lines in 01's order

pub data Step : Type 0 where
  widen : (r b : ℕ) → Step
  new : (r b : ℕ) → Step
  checkcast : (r b : ℕ) → Step
  getstatic : (f q : ℕ) → Step
  putstatic : (f q : ℕ) → Step
  getfield : (f p q : ℕ) → Step
  putfield : (f p q : ℕ) → Step
  invokestatic : (n : ℕ) → List ℕ → Step
  invokemethod : (n v r : ℕ) → List ℕ → Step
  return : (r : ℕ) → Step

-- ---- sets: lists without repetition, in the order of insertion

unfoldable pub same_object : Object → Object → Bool
same_object x y = eqb x.ref y.ref && eqb x.class y.class

unfoldable pub same_link : Link → Link → Bool
same_link x y = eqb x.owner y.owner && (eqb x.declared y.declared && (eqb x.type y.type && eqb x.target y.target))

unfoldable pub same_label : Label → Label → Bool
same_label x y = eqb x.ref y.ref && eqb x.type y.type

-- xs ∪ {x}
unfoldable pub add : {A : Type 0} → (A → A → Bool) → A → List A → List A
unfolding any
add same x xs = cond (any (same x) xs) xs (xs ++ (x ∷ []))

-- xs ∪ ys, the elements of ys one by one
unfoldable pub add_all : {A : Type 0} → (A → A → Bool) → List A → List A → List A
unfolding add
add_all same [] xs = xs
add_all same (y ∷ ys) xs = add_all same ys (add same y xs)

-- ---- the next states

abbrev pub with_label : State → ℕ → ℕ → State
with_label s r c = record { pool = s.pool; links = s.links; labels = add same_label (label r c) s.labels; method = s.method; saved = s.saved }

abbrev pub with_object : State → ℕ → ℕ → State
with_object s r c =
    record {
      pool = add same_object (object r c) s.pool;
      links = s.links;
      labels = add same_label (label r c) s.labels;
      method = s.method;
      saved = s.saved;
    }

abbrev pub with_link : State → Link → State
with_link s k = record { pool = s.pool; links = add same_link k s.links; labels = s.labels; method = s.method; saved = s.saved }

-- a call of a method with this return type, where v runs over a frame of these labels
abbrev pub called : State → Option ℕ → ℕ → List Label → State
called s c v ls =
    record {
      pool = s.pool;
      links = s.links;
      labels = add_all same_label ls [];
      method = v;
      saved = record { method = s.method; pending = c; labels = s.labels } ∷ s.saved;
    }

-- the frame of the caller, with what is returned where a type is pending
abbrev pub given : Option ℕ → ℕ → List Label → List Label
given none r ls = ls
given (some c) r ls = add same_label (label r c) ls

abbrev pub resumed : State → ℕ → Saved → List Saved → State
resumed s r k ks = record { pool = s.pool; links = s.links; labels = given k.pending r k.labels; method = k.method; saved = ks }

-- the links of a field of this number: they carry its declaring class and type
abbrev pub static_link : Package → ℕ → ℕ → Link
static_link P f q = record { owner = no_owner; declared = field_class P f; type = field_type P f; target = q }

abbrev pub field_link : Package → ℕ → ℕ → ℕ → Link
field_link P f p q = record { owner = p; declared = field_class P f; type = field_type P f; target = q }

-- the arguments, labelled with the parameter types
unfoldable pub passed : List ℕ → List ℕ → List Label
passed [] cs = []
passed (r ∷ rs) [] = []
passed (r ∷ rs) (c ∷ cs) = label r c ∷ passed rs cs

-- ---- premises

-- an effect of the method m with this op permits a step on the same number
abbrev pub Permits : Package → ℕ → ℕ → ℕ → Type 0
Permits P m op x = In (record { method = m; op = op; number = x }) P.effects

-- for the field steps, an effect on a field of the same declaring class and type is enough
pub record PermitsField (P : Package) (m op f : ℕ) : Type 0 where
  pub field : ℕ
  pub permits : Permits P m op field
  pub class : field_class P field ≡ field_class P f
  pub type : field_type P field ≡ field_type P f

-- Φ ⊢ r̄ : C̄, one for one
pub data HoldsAll (ls : List Label) : List ℕ → List ℕ → Type 0 where
  no_more : HoldsAll ls [] []
  one_more : {r c : ℕ} {rs cs : List ℕ} → In (label r c) ls → HoldsAll ls rs cs → HoldsAll ls (r ∷ rs) (c ∷ cs)

-- r is the number of no object
abbrev pub Fresh : ℕ → List Object → Type 0
Fresh r os = (c : ℕ) → In (object r c) os → ⊥

-- v is n or overrides n
abbrev pub RunsFor : Package → ℕ → ℕ → Type 0
RunsFor P v n = (v ≡ n) ⊎ Overrides P v n

-- what may be returned where this type is pending: FF fits exactly the methods without return type
abbrev pub Returns : List Label → Option ℕ → ℕ → Type 0
Returns ls none r = r ≡ nothing
Returns ls (some c) r = In (label r c) ls

-- ---- Fig. 4: the step leads from s to t. Widen and return need no effect

pub data Moves (P : Package) (s : State) : Step → State → Type 0 where
  t_widen : {r c b : ℕ} → In (label r c) s.labels → Subtype P c b → Moves P s (widen r b) (with_label s r b)
  t_new : {r b : ℕ} → Fresh r s.pool → Permits P s.method 0 b → Moves P s (new r b) (with_object s r b)
  t_checkcast : {r c c' b : ℕ} → In (label r c) s.labels → In (object r c') s.pool → Subtype P c' b → Permits P s.method 1 b → Moves P s (checkcast r b) (with_label s r b)
  t_getstatic : {f q : ℕ} → In (static_link P f q) s.links → PermitsField P s.method 2 f → Moves P s (getstatic f q) (with_label s q (field_type P f))
  t_putstatic : {f q : ℕ} → In (label q (field_type P f)) s.labels → PermitsField P s.method 3 f → Moves P s (putstatic f q) (with_link s (static_link P f q))
  t_getfield : {f p b q : ℕ}
      → In (label p b) s.labels
      → Subtype P b (field_class P f)
      → In (field_link P f p q) s.links
      → PermitsField P s.method 4 f
      → Moves P s (getfield f p q) (with_label s q (field_type P f))
  t_putfield : {f p b q : ℕ}
      → In (label p b) s.labels
      → Subtype P b (field_class P f)
      → In (label q (field_type P f)) s.labels
      → PermitsField P s.method 5 f
      → Moves P s (putfield f p q) (with_link s (field_link P f p q))
  t_invokestatic : {n : ℕ} {rs : List ℕ} → HoldsAll s.labels rs (params_of P n) → Permits P s.method 6 n → Moves P s (invokestatic n rs) (called s (result_of P n) n (passed rs (params_of P n)))
  t_invokemethod : {n v r c c' : ℕ} {rs : List ℕ}
      → In (label r c) s.labels
      → Subtype P c (owner_of P n)
      → HoldsAll s.labels rs (params_of P n)
      → In (object r c') s.pool
      → Subtype P c' (owner_of P v)
      → RunsFor P v n
      → Permits P s.method 7 n
      → Moves P s (invokemethod n v r rs) (called s (result_of P n) v (label r (owner_of P v) ∷ passed rs (params_of P n)))
  t_return : {r : ℕ} {k : Saved} {ks : List Saved} → s.saved ≡ k ∷ ks → Returns s.labels k.pending r → Moves P s (return r) (resumed s r k ks)

-- ---- room: at most 256 links, 32 labels a frame, 16 saved frames; an item already there needs none

abbrev pub RoomFor : {A : Type 0} → ℕ → A → List A → Type 0
RoomFor limit x xs = In x xs ⊎ (length xs < limit)

abbrev pub RoomGiven : Option ℕ → ℕ → List Label → Type 0
RoomGiven none r ls = Unit {0}
RoomGiven (some c) r ls = RoomFor 32 (label r c) ls

abbrev pub RoomBack : ℕ → List Saved → Type 0
RoomBack r [] = Unit {0}
RoomBack r (k ∷ ks) = RoomGiven k.pending r k.labels

abbrev pub Room : Package → State → Step → Type 0
Room P s (widen r b) = RoomFor 32 (label r b) s.labels
Room P s (new r b) = RoomFor 32 (label r b) s.labels
Room P s (checkcast r b) = RoomFor 32 (label r b) s.labels
Room P s (getstatic f q) = RoomFor 32 (label q (field_type P f)) s.labels
Room P s (putstatic f q) = RoomFor 256 (static_link P f q) s.links
Room P s (getfield f p q) = RoomFor 32 (label q (field_type P f)) s.labels
Room P s (putfield f p q) = RoomFor 256 (field_link P f p q) s.links
Room P s (invokestatic n rs) = length s.saved < 16
Room P s (invokemethod n v r rs) = length s.saved < 16
Room P s (return r) = RoomBack r s.saved

-- ---- what a refused step lacks, in the order 64, 61, 62, 63

-- some effect of the running method permits the step
abbrev pub Permitted : Package → State → Step → Type 0
Permitted P s (widen r b) = Unit {0}
Permitted P s (new r b) = Permits P s.method 0 b
Permitted P s (checkcast r b) = Permits P s.method 1 b
Permitted P s (getstatic f q) = PermitsField P s.method 2 f
Permitted P s (putstatic f q) = PermitsField P s.method 3 f
Permitted P s (getfield f p q) = PermitsField P s.method 4 f
Permitted P s (putfield f p q) = PermitsField P s.method 5 f
Permitted P s (invokestatic n rs) = Permits P s.method 6 n
Permitted P s (invokemethod n v r rs) = Permits P s.method 7 n
Permitted P s (return r) = Unit {0}

-- the step is a return without a saved frame
abbrev pub Stranded : State → Step → Type 0
Stranded s (widen r b) = ⊥
Stranded s (new r b) = ⊥
Stranded s (checkcast r b) = ⊥
Stranded s (getstatic f q) = ⊥
Stranded s (putstatic f q) = ⊥
Stranded s (getfield f p q) = ⊥
Stranded s (putfield f p q) = ⊥
Stranded s (invokestatic n rs) = ⊥
Stranded s (invokemethod n v r rs) = ⊥
Stranded s (return r) = s.saved ≡ []

-- 64: return without a saved frame; 61: no effect of the running method permits it; 62: another premise of the step is missing; 63: no room
pub data FirstMissing (P : Package) (s : State) (k : Step) : ℕ → Type 0 where
  frame : Stranded s k → FirstMissing P s k 64
  effect : (Permitted P s k → ⊥) → FirstMissing P s k 61
  premise : (Stranded s k → ⊥) → Permitted P s k → ((t : State) → Moves P s k t → ⊥) → FirstMissing P s k 62
  room : {t : State} → Moves P s k t → (Room P s k → ⊥) → FirstMissing P s k 63
