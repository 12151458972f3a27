-- One step that computes (01, "Run text"): the state that it leads to, or 64, 61, 62 or 63, in that order. Each test here is a premise of
-- Machine.antt; proofs/ has the laws that a step goes where `Moves` leads and has room, and is refused with what is missing first.
-- Assumes nothing.
use Rattle.std.specs.Prelude.{ℕ, Bool, true, false, ◌&&◌, ◌||◌, not, List, [], ◌∷◌, eqb, ltb, length}
use Rattle.std.proofs.Math.Option.{Option, none, some}
use Rattle.meaning.specs.Lists.{any}
use Rattle.meaning.specs.Tables.{Package, Effect, owner_of, result_of, params_of, field_class, field_type}
use Rattle.meaning.specs.Reading.{Took, takes, refuses, need}
use Rattle.meaning.specs.Tests.{subtype, overrides}
use Rattle.runs.specs.Machine.{Object, Link, Label, Saved, State, Step, widen, new, checkcast, getstatic, putstatic, getfield, putfield, invokestatic, invokemethod, return, nothing, label, same_object, same_link, same_label, add, add_all, with_label, with_object, with_link, called, resumed, static_link, field_link, passed}

-- ---- effects

unfoldable pub is_effect : ℕ → ℕ → ℕ → Effect → Bool
is_effect m op x e = eqb e.method m && (eqb e.op op && eqb e.number x)

unfoldable pub permits : Package → ℕ → ℕ → ℕ → Bool
unfolding any is_effect
permits P m op x = any (is_effect m op x) P.effects

-- a field of the same declaring class and type
unfoldable pub like_field : Package → ℕ → ℕ → Bool
unfolding field_class field_type
like_field P f g = eqb (field_class P g) (field_class P f) && eqb (field_type P g) (field_type P f)

unfoldable pub is_field_effect : Package → ℕ → ℕ → ℕ → Effect → Bool
unfolding like_field
is_field_effect P m op f e = eqb e.method m && (eqb e.op op && like_field P f e.number)

unfoldable pub permits_field : Package → ℕ → ℕ → ℕ → Bool
unfolding any is_field_effect
permits_field P m op f = any (is_field_effect P m op f) P.effects

-- ---- frames, links and objects

-- r is in the frame at this label; at any label; at a subtype of b
unfoldable pub holds : List Label → ℕ → ℕ → Bool
unfolding any same_label
holds ls r c = any (same_label (label r c)) ls

unfoldable pub is_of : ℕ → Label → Bool
is_of r l = eqb l.ref r

unfoldable pub holds_ref : List Label → ℕ → Bool
unfolding any is_of
holds_ref ls r = any (is_of r) ls

unfoldable pub is_below : Package → ℕ → ℕ → Label → Bool
unfolding subtype
is_below P r b l = eqb l.ref r && subtype P l.type b

unfoldable pub holds_below : Package → List Label → ℕ → ℕ → Bool
unfolding any is_below
holds_below P ls r b = any (is_below P r b) ls

unfoldable pub holds_all : List Label → List ℕ → List ℕ → Bool
unfolding holds
holds_all ls [] [] = true
holds_all ls [] (c ∷ cs) = false
holds_all ls (r ∷ rs) [] = false
holds_all ls (r ∷ rs) (c ∷ cs) = holds ls r c && holds_all ls rs cs

unfoldable pub has_link : List Link → Link → Bool
unfolding any same_link
has_link ks k = any (same_link k) ks

-- r is the number of an object; of one whose class is a subtype of b
unfoldable pub is_numbered : ℕ → Object → Bool
is_numbered r o = eqb o.ref r

unfoldable pub in_pool : List Object → ℕ → Bool
unfolding any is_numbered
in_pool os r = any (is_numbered r) os

unfoldable pub is_object_below : Package → ℕ → ℕ → Object → Bool
unfolding subtype
is_object_below P r b o = eqb o.ref r && subtype P o.class b

unfoldable pub is_a : Package → List Object → ℕ → ℕ → Bool
unfolding any is_object_below
is_a P os r b = any (is_object_below P r b) os

unfoldable pub runs_for : Package → ℕ → ℕ → Bool
unfolding overrides
runs_for P v n = eqb v n || overrides P v n

unfoldable pub returns : List Label → Option ℕ → ℕ → Bool
unfolding holds
returns ls none r = eqb r nothing
returns ls (some c) r = holds ls r c

-- ---- room

unfoldable pub room_for : {A : Type 0} → (A → A → Bool) → ℕ → A → List A → Bool
unfolding any
room_for same limit x xs = any (same x) xs || ltb (length xs) limit

unfoldable pub room_given : Option ℕ → ℕ → List Label → Bool
unfolding room_for same_label
room_given none r ls = true
room_given (some c) r ls = room_for same_label 32 (label r c) ls

-- ---- a step

-- r labelled c joins the running frame
unfoldable pub join : State → ℕ → ℕ → Took State
unfolding room_for same_label add
join s r c = need (room_for same_label 32 (label r c) s.labels) 63 (takes (with_label s r c))

unfoldable pub make : State → ℕ → ℕ → Took State
unfolding room_for same_label same_object add
make s r c = need (room_for same_label 32 (label r c) s.labels) 63 (takes (with_object s r c))

unfoldable pub link : State → Link → Took State
unfolding room_for same_link add
link s k = need (room_for same_link 256 k s.links) 63 (takes (with_link s k))

unfoldable pub call : State → Option ℕ → ℕ → List Label → Took State
unfolding add_all same_label
call s c v ls = need (ltb (length s.saved) 16) 63 (takes (called s c v ls))

unfoldable pub back : State → ℕ → List Saved → Took State
unfolding returns room_given add same_label
back s r [] = refuses 64
back s r (k ∷ ks) =
    need (returns s.labels k.pending r) 62
    (need (room_given k.pending r k.labels) 63
    (takes (resumed s r k ks)))

unfoldable pub step : Package → State → Step → Took State
unfolding permits permits_field holds holds_ref holds_below holds_all has_link in_pool is_a runs_for join make link call back passed owner_of result_of params_of field_class field_type
step P s (widen r b) = need (holds_below P s.labels r b) 62 (join s r b)
step P s (new r b) =
    need (permits P s.method 0 b) 61
    (need (not (in_pool s.pool r)) 62
    (make s r b))
step P s (checkcast r b) =
    need (permits P s.method 1 b) 61
    (need (holds_ref s.labels r) 62
    (need (is_a P s.pool r b) 62
    (join s r b)))
step P s (getstatic f q) =
    need (permits_field P s.method 2 f) 61
    (need (has_link s.links (static_link P f q)) 62
    (join s q (field_type P f)))
step P s (putstatic f q) =
    need (permits_field P s.method 3 f) 61
    (need (holds s.labels q (field_type P f)) 62
    (link s (static_link P f q)))
step P s (getfield f p q) =
    need (permits_field P s.method 4 f) 61
    (need (holds_below P s.labels p (field_class P f)) 62
    (need (has_link s.links (field_link P f p q)) 62
    (join s q (field_type P f))))
step P s (putfield f p q) =
    need (permits_field P s.method 5 f) 61
    (need (holds_below P s.labels p (field_class P f)) 62
    (need (holds s.labels q (field_type P f)) 62
    (link s (field_link P f p q))))
step P s (invokestatic n rs) =
    need (permits P s.method 6 n) 61
    (need (holds_all s.labels rs (params_of P n)) 62
    (call s (result_of P n) n (passed rs (params_of P n))))
step P s (invokemethod n v r rs) =
    need (permits P s.method 7 n) 61
    (need (holds_below P s.labels r (owner_of P n)) 62
    (need (holds_all s.labels rs (params_of P n)) 62
    (need (is_a P s.pool r (owner_of P v)) 62
    (need (runs_for P v n) 62
    (call s (result_of P n) v (label r (owner_of P v) ∷ passed rs (params_of P n)))))))
step P s (return r) = back s r s.saved
