-- One latch, one constraint and one property against the definitions.
use Rattle.std.proofs.Common.{◌≡◌, ℕ, ◌<◌, ◌⊎◌, Bool, true, false, not, List, Some, length, get_or, slice_get, inl, inr, sym, ap, ◌∙◌, refl, arith, All, ⊎_elim}
use Rattle.std.proofs.lemmas.List.{length-map}
use Rattle.std.proofs.lemmas.Option.{same_Some, slice_get-get_or, slice_get_within}
use Rattle.ja_base.specs.Literals.{bit}
use Rattle.ja_base.specs.Circuit as plain
use Rattle.ja_base.specs.Runs.{IsInitial}
use Rattle.ja_base.specs.Replay.{BreaksReset}
use Rattle.aig_model.specs.declared.netlist.Latch.{Latch}
use Rattle.aig_model.specs.Netlist.{Netlist, circuit, latch_of, reset_bit}
use Rattle.aig_eval.proofs.DefinedLemmas.{slice_get_mapped}

not-not : (b : Bool) → not (not b) ≡ b
not-not true = refl
not-not false = refl

pub same_or_other : (x b : Bool) → (x ≡ b) ⊎ (x ≡ not b)
same_or_other true true = inl refl
same_or_other true false = inr refl
same_or_other false true = inr refl
same_or_other false false = inl refl

module _ (n : Netlist) (first : List Bool) (k : ℕ) (latch : Latch) (is : slice_get n.latches k ≡ Some latch) where
  pub breaks_reset : reset_bit latch.reset ≡ Some (not (bit first k)) → BreaksReset (circuit n) first k
  breaks_reset given = record {
    latch = latch_of latch;
    reset = not (bit first k);
    latch_is = slice_get_mapped latch_of n.latches k latch is;
    given = given;
    other = sym (not-not (bit first k));
  }

  pub reset_from_break : BreaksReset (circuit n) first k → reset_bit latch.reset ≡ Some (not (bit first k))
  reset_from_break b =
      let same = same_Some (latch_of latch) b.latch (sym (slice_get_mapped latch_of n.latches k latch is) ∙ b.latch_is) in
      ap (λ (l : plain.Latch). l.reset) same ∙ b.given ∙ ap Some (sym (not-not b.reset) ∙ ap not (sym b.other))

pub initial_from_none : (n : Netlist) (first : List Bool) → length first ≡ length n.latches
    → ((k : ℕ) → k < length n.latches → BreaksReset (circuit n) first k → ⊥) → IsInitial (circuit n) first
initial_from_none n first width none = record {
  width = width ∙ sym (length-map n.latches latch_of);
  agrees = λ k l b is given. ⊎_elim (λ same. same)
      (λ other. absurd (none k (omega (arith, length-map n.latches latch_of, slice_get_within (circuit n).latches k l is))
      (record { latch = l; reset = b; latch_is = is; given = given; other = other })))
      (same_or_other (bit first k) b);
}

pub all_from_gets : (P : ℕ → Type 0) (xs : List ℕ) → ((k x : ℕ) → k < length xs → slice_get xs k ≡ Some x → P x) → All P xs
all_from_gets P xs each k d h = each k (get_or xs k d) h (slice_get-get_or xs k d h)
