-- A package's tables (01, "Package text"): a record for each frame, field for field, the raw lists as read; and what the other
-- definitions ask of them.
-- Assumes nothing.
use Rattle.std.specs.Prelude.{ℕ, ◌≡◌, cond, List, [], eqb, get_or}
use Rattle.std.proofs.Math.Option.{Option, none, some}

-- 02 EE DD: E ► D
pub record Pair : Type 0 where
  pub low : ℕ
  pub high : ℕ

-- 03 dd k s..
pub record Class : Type 0 where
  pub domain : ℕ
  pub supers : List ℕ

-- 04 cc tt ss
pub record Field : Type 0 where
  pub class : ℕ
  pub type : ℕ
  pub static : ℕ

-- 05 cc ll ss hh hh rr k p..
pub record Method : Type 0 where
  pub class : ℕ
  pub label : ℕ
  pub static : ℕ
  pub slot : ℕ
  pub result : ℕ
  pub params : List ℕ

-- 06 mm op xx
pub record Effect : Type 0 where
  pub method : ℕ
  pub op : ℕ
  pub number : ℕ

pub record Package : Type 0 where
  pub generation : ℕ
  pub domains : ℕ
  pub pairs : List Pair
  pub classes : List Class
  pub fields : List Field
  pub methods : List Method
  pub effects : List Effect

-- ---- what stands at a number. One that is not declared answers like a class of the root, a static field, a static method

abbrev pub no_pair : Pair
no_pair = record { low = 0; high = 0 }

abbrev pub no_class : Class
no_class = record { domain = 0; supers = [] }

abbrev pub no_field : Field
no_field = record { class = 0; type = 0; static = 1 }

abbrev pub no_method : Method
no_method = record { class = 0; label = 0; static = 1; slot = 0; result = 0xFF; params = [] }

abbrev pub no_effect : Effect
no_effect = record { method = 0; op = 0; number = 0 }

abbrev pub class_at : Package → ℕ → Class
class_at P c = get_or P.classes c no_class

abbrev pub field_at : Package → ℕ → Field
field_at P f = get_or P.fields f no_field

abbrev pub method_at : Package → ℕ → Method
method_at P m = get_or P.methods m no_method

abbrev pub effect_at : Package → ℕ → Effect
effect_at P i = get_or P.effects i no_effect

-- ---- classes and types

-- the domain of a type
unfoldable pub home : Package → ℕ → ℕ
home P c = (class_at P c).domain

-- a class's direct supertypes
unfoldable pub supers_of : Package → ℕ → List ℕ
supers_of P c = (class_at P c).supers

-- ---- methods

-- the class that declares a method
unfoldable pub owner_of : Package → ℕ → ℕ
owner_of P m = (method_at P m).class

-- a method's granting label: what it may grant to, and what it may grant
unfoldable pub label_of : Package → ℕ → ℕ
label_of P m = (method_at P m).label

abbrev pub target_of : Package → ℕ → ℕ
target_of P m = label_of P m

abbrev pub potency_of : Package → ℕ → ℕ
potency_of P m = label_of P m

unfoldable pub slot_of : Package → ℕ → ℕ
slot_of P m = (method_at P m).slot

-- the return type; FF: none
abbrev pub type_or_none : ℕ → Option ℕ
type_or_none r = cond (eqb r 0xFF) none (some r)

unfoldable pub result_of : Package → ℕ → Option ℕ
result_of P m = type_or_none (method_at P m).result

unfoldable pub params_of : Package → ℕ → List ℕ
params_of P m = (method_at P m).params

-- 00 instance, 01 static
abbrev pub InstanceMethod : Package → ℕ → Type 0
InstanceMethod P m = (method_at P m).static ≡ 0

-- ---- fields and effects

unfoldable pub field_class : Package → ℕ → ℕ
field_class P f = (field_at P f).class

unfoldable pub field_type : Package → ℕ → ℕ
field_type P f = (field_at P f).type

-- the method of an effect, and the class in which it stands
unfoldable pub caller_of : Package → ℕ → ℕ
caller_of P i = (effect_at P i).method

unfoldable pub site_of : Package → ℕ → ℕ
unfolding caller_of owner_of
site_of P i = owner_of P (caller_of P i)

unfoldable pub op_of : Package → ℕ → ℕ
op_of P i = (effect_at P i).op

-- what an effect names: a class, a field or a method, by its op
unfoldable pub named_by : Package → ℕ → ℕ
named_by P i = (effect_at P i).number
