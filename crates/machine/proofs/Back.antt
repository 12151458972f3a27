-- From a state of the definitions to its snapshot and back: all but the order of the objects is the same.
-- Assumes nothing.
use Rattle.std.proofs.Common.{◌≡◌, ℕ, List, [], ◌∷◌, map, refl, ap₂}
use Rattle.std.proofs.Math.Option as O
use Rattle.runs.specs.Machine as M
use Rattle.machine.specs.Definitions.{option_from, label_from, link_from, frame_from, snapshot_from, option_view, label_view, link_view, frame_view, state_view}

pub mapped-back : {A B : Type 0} (f : A → B) (g : B → A) → ((x : A) → g (f x) ≡ x) → (xs : List A) → map g (map f xs) ≡ xs
mapped-back f g e [] = refl
mapped-back f g e (x ∷ xs) = ap₂ (λ (y : _) (ys : List _). y ∷ ys) (e x) (mapped-back f g e xs)

option-back : (o : O.Option ℕ) → option_view (option_from o) ≡ o
option-back O.none = refl
option-back (O.some x) = refl

pub labels-back : (ls : List M.Label) → map label_view (map label_from ls) ≡ ls
labels-back ls = mapped-back label_from label_view (λ l. refl) ls

pub links-back : (ks : List M.Link) → map link_view (map link_from ks) ≡ ks
links-back ks = mapped-back link_from link_view (λ k. refl) ks

pub saved-back : (ks : List M.Saved) → map frame_view (map frame_from ks) ≡ ks
saved-back ks =
    mapped-back frame_from frame_view
    (λ k. ap₂ (λ (p : O.Option ℕ) (ls : List M.Label). record { method = k.method; pending = p; labels = ls }) (option-back k.pending) (labels-back k.labels)) ks

-- all but the pool
pub state-back : (s : M.State) → state_view (snapshot_from s) ≡ record { pool = (state_view (snapshot_from s)).pool; links = s.links; labels = s.labels; method = s.method; saved = s.saved }
state-back s =
    ap₂ (λ (links : List M.Link) (rest : List M.Label × List M.Saved). record { pool = (state_view (snapshot_from s)).pool; links = links; labels = rest.0; method = s.method; saved = rest.1 })
    (links-back s.links)
    (ap₂ (λ (labels : List M.Label) (saved : List M.Saved). (labels, saved)) (labels-back s.labels) (saved-back s.saved))
