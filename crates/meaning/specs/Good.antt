-- What a package that is read guarantees (01, "Package text"): every count in its limit, every number declared and of its kind,
-- supertypes lower than the class. Everything behind the reader rests on this.
-- Assumes nothing.
use Rattle.std.specs.Prelude.{ℕ, ◌≤◌, ◌<◌, ◌≡◌, ◌⊎◌, T, length}
use Rattle.meaning.specs.Lists.{In}
use Rattle.meaning.specs.Tables.{Package, Pair, field_at, method_at, home, supers_of, owner_of, label_of, slot_of, params_of, field_class, field_type, caller_of, op_of, named_by}
use Rattle.meaning.specs.Reading.{is_named}

pub record GoodPair (P : Package) (p : Pair) : Type 0 where
  pub low : p.low < P.domains
  pub high : p.high < P.domains

pub record GoodClass (P : Package) (c : ℕ) : Type 0 where
  pub domain : home P c < P.domains
  pub few : length (supers_of P c) ≤ 4
  pub lower : (s : ℕ) → In s (supers_of P c) → s < c

pub record GoodField (P : Package) (f : ℕ) : Type 0 where
  pub class : field_class P f < length P.classes
  pub type : field_type P f < length P.classes
  pub static : (field_at P f).static ≤ 1

pub record GoodMethod (P : Package) (m : ℕ) : Type 0 where
  pub class : owner_of P m < length P.classes
  pub label : label_of P m < P.domains
  pub static : (method_at P m).static ≤ 1
  pub slot : ((method_at P m).static ≡ 1 → slot_of P m ≡ 0) × ((method_at P m).static ≡ 0 → 0 < slot_of P m)
  pub result : ((method_at P m).result ≡ 0xFF) ⊎ ((method_at P m).result < length P.classes)
  pub few : length (params_of P m) ≤ 6
  pub params : (c : ℕ) → In c (params_of P m) → c < length P.classes

pub record GoodEffect (P : Package) (i : ℕ) : Type 0 where
  pub method : caller_of P i < length P.methods
  pub op : op_of P i ≤ 7
  pub named : T (is_named P (op_of P i) (named_by P i))

pub record Good (P : Package) : Type 0 where
  pub generation : P.generation ≡ 2
  pub some_domains : 1 ≤ P.domains
  pub domains : P.domains ≤ 32
  pub few_pairs : length P.pairs ≤ 128
  pub few_classes : length P.classes ≤ 127
  pub few_fields : length P.fields ≤ 256
  pub few_methods : length P.methods ≤ 256
  pub few_effects : length P.effects ≤ 1024
  pub pairs : (p : Pair) → In p P.pairs → GoodPair P p
  pub classes : (c : ℕ) → c < length P.classes → GoodClass P c
  pub fields : (f : ℕ) → f < length P.fields → GoodField P f
  pub methods : (m : ℕ) → m < length P.methods → GoodMethod P m
  pub effects : (i : ℕ) → i < length P.effects → GoodEffect P i
