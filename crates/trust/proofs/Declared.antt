-- The classes of the tables, as the loops read them: how many, their domains and their direct supertypes.
-- Assumes nothing.
use Rattle.std.proofs.Common.{◌≡◌, ℕ, ◌<◌, ◌≤◌, List, length, get_or, take, arith, ap, sym, subst, ◌∙◌}
use Rattle.meaning.specs.Lists.{In}
use Rattle.meaning.specs.Tables as M
use Rattle.std.proofs.lemmas.List.{length-map}
use Rattle.meaning.specs.Tables.{supers_of, class_at, no_class, home}
use Rattle.meaning.specs.Good.{Good}
use Rattle.meaning.proofs.Lists.{get_or-in}
use Rattle.meaning.proofs.Trust.{good-rising}
use Rattle.tables.specs.declared.elements.Class.{Class}
use Rattle.tables.specs.Contents.{Contents}
use Rattle.tables.specs.View.{view, class_view}
use Rattle.trust.proofs.Laws.{home_declared}
use Rattle.tables.proofs.At.{get_or-map, get_or-map_past}

module _ (t : Contents) where
  pub class-count : length (view t).classes ≡ length t.classes
  class-count = length-map t.classes class_view

  module _ (c : ℕ) (x : Class) (h : c < length t.classes) (e : x ≡ get_or t.classes c x) where
    class_is : class_at (view t) c ≡ class_view x
    class_is = get_or-map class_view t.classes c no_class x h ∙ ap class_view (sym e)

    pub supers-at : supers_of (view t) c ≡ take x.supertype_count x.supertypes
    unfolding supers_of
    supers-at = ap (λ (y : M.Class). y.supers) class_is

    pub home-at : home (view t) c ≡ x.domain
    unfolding home
    home-at = ap (λ (y : M.Class). y.domain) class_is

    pub supers-low : Good (view t) → (ss : List ℕ) → ss ≡ take x.supertype_count x.supertypes → (i : ℕ) → i < length ss → get_or ss i 0 < 127
    supers-low g ss f i l =
        let s : ss ≡ supers_of (view t) c = f ∙ sym supers-at in
        let low = good-rising (view t) g c (get_or ss i 0) (subst (λ (l : List ℕ). In (get_or ss i 0) l) s (get_or-in ss i 0 l)) in
        omega (arith, g.few_classes, class-count)

  module _ (c : ℕ) (x : Class) (h : c < length t.classes) where
    home_of_class : home (view t) c ≡ (get_or t.classes c x).domain
    unfolding home
    home_of_class = ap (λ (y : M.Class). y.domain) (get_or-map class_view t.classes c no_class x h)

  -- the domain of a class is one that is declared
  pub domain_fits : Good (view t) → (c : ℕ) (x : Class) → c < length t.classes → (get_or t.classes c x).domain < 32
  domain_fits g c x h =
      let fits : home (view t) c < (view t).domains = home_declared g c in
      omega (arith, g.domains, home_of_class c x h)

  -- behind the last class stands the root's domain
  pub home-past : (c : ℕ) → length t.classes ≤ c → home (view t) c ≡ 0
  unfolding home
  home-past c h = ap (λ (y : M.Class). y.domain) (get_or-map_past class_view t.classes c no_class h)
