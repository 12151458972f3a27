-- What is printed of a rule, and of one that is broken.
-- Assumes nothing.
use Rattle.std.specs.Prelude.{ℕ, List, ◌++◌, codes}
use Rattle.std.specs.Fmt.{decimal}
use Rattle.rules.specs.declared.Rule.{Rule}
use Rattle.rules.specs.declared.Rule.TheVariants.{MutualDominance, SlotTypesDiffer, SlotDeclaredTwice, DistrustedSubtype, LostSuspicion, DistrustingOverride, OverriddenResult, OverriddenParameter, DistrustedCreation, DistrustedType, DistrustedStaticCall, DistrustedInvocation, UngrantedArgument}
use Rattle.rules.specs.declared.Broken.{Broken}
use Rattle.rules.specs.Numbers.{number_of}

abbrev pub rule_text : Rule → List ℕ
rule_text MutualDominance = codes "two domains dominate each other: remove one of the pairs that lead around"
rule_text SlotTypesDiffer = codes "two methods of one slot differ in their parameters or return type: give the second a slot of its own"
rule_text SlotDeclaredTwice = codes "a class declares a slot twice: remove one of the two methods or give it another slot"
rule_text DistrustedSubtype = codes "a class lies under one that does not trust it: its domain has to dominate the supertype's"
rule_text LostSuspicion = codes "two classes can exchange what their supertypes keep apart: move one of them to another domain"
rule_text DistrustingOverride = codes "a method overrides one whose label does not dominate its own: lower the label of the overriding method"
rule_text OverriddenResult = codes "a method overrides one of another domain, whose return type does not trust the class that declares it"
rule_text OverriddenParameter = codes "a method overrides one of another domain, and a parameter's type does not trust the overriding class"
rule_text DistrustedCreation = codes "a method makes or casts to a class that its domain does not dominate: the object has to be handed to it at a type that it may have"
rule_text DistrustedType = codes "a method takes or leaves a value of another domain, at a type that does not trust whoever comes by it"
rule_text DistrustedStaticCall = codes "a static call of a class whose domain the caller's does not dominate: call through an object that was handed over"
rule_text DistrustedInvocation = codes "a method invokes one whose label its own does not dominate: the caller's label has to dominate the called method's"
rule_text UngrantedArgument = codes "an argument's type does not trust the receiver, and the caller's label does not grant it: hand over a wider type, or let a method do it whose label dominates both domains"

-- its number, its places, and what it says
abbrev pub broken_text : Broken → List ℕ
broken_text b = codes "rule " ++ (decimal (number_of b.rule) ++ (codes " at " ++ (decimal b.first ++ (codes ", " ++ (decimal b.second ++ (codes ": " ++ rule_text b.rule))))))
