-- The rules over effects, asked of what an effect does.
-- Assumes nothing.
use Rattle.std.proofs.Common.{◌≡◌, ℕ, ◌&&◌, ◌||◌, not, get_or}
use Rattle.meaning.specs.Tables.{Package, owner_of, label_of, result_of, params_of, field_class, field_type, op_of, named_by, caller_of, site_of}
use Rattle.meaning.specs.Tests.{is_op, trusts, method_trusts, dominated, keeps_from, of_result, granted, breaks26, breaks27, breaks28, breaks29, breaks30}
use Rattle.effect_rules.specs.declared.site.Named.{Named}
use Rattle.effect_rules.specs.Sites.{is_made, is_read, is_written, is_called_static, is_called, DoesBy}

-- the class in which an effect stands
abbrev here : Package → ℕ → ℕ
here P i = owner_of P (caller_of P i)

module _ (P : Package) (i : ℕ) {named : Named} (d : DoesBy (op_of P i) named) where
  pub creation : (z : ℕ) → breaks26 P i z ≡ (is_made named && not (trusts P (named_by P i) (here P i)))
  unfolding breaks26 is_op site_of
  creation z = rw d.makes

  pub typing : (z : ℕ)
      → breaks27 P i z
      ≡ ((is_read named && keeps_from P (here P i) (here P i) (field_class P (named_by P i)) (field_type P (named_by P i)))
      || ((is_written named && keeps_from P (field_class P (named_by P i)) (here P i) (field_class P (named_by P i)) (field_type P (named_by P i)))
      || (is_called named && of_result (keeps_from P (here P i) (here P i) (owner_of P (named_by P i))) (result_of P (named_by P i)))))
  unfolding breaks27 is_op site_of
  typing z = rw (d.reads, d.writes, d.calls)

  pub static_call : (z : ℕ) → breaks28 P i z ≡ (is_called_static named && not (trusts P (owner_of P (named_by P i)) (here P i)))
  unfolding breaks28 site_of
  static_call z = rw d.calls_static

  pub invocation : (z : ℕ) → breaks29 P i z ≡ (is_called named && not (dominated P (label_of P (named_by P i)) (label_of P (caller_of P i))))
  unfolding breaks29 is_op method_trusts
  invocation z = rw d.calls

  pub argument : (j : ℕ) → breaks30 P i j ≡ (is_called named && not (granted P (caller_of P i) (here P i) (owner_of P (named_by P i)) (get_or (params_of P (named_by P i)) j 0)))
  unfolding breaks30 is_op site_of
  argument j = rw d.calls
