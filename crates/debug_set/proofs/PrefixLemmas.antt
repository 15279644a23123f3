-- A stimulus that is cut after a step runs up to that step as before.
use Rattle.std.proofs.Common.{◌≡◌, ℕ, ◌+◌, Bool, List, [], ◌∷◌, ◌++◌, length, take, sym, subst, arith}
use Rattle.std.specs.Prelude.{All}
use Rattle.std.proofs.lemmas.List.{length-append, append_assoc}
use Rattle.std.proofs.Math.Seq.{take-append_seam}
use Rattle.std.proofs.lemmas.List.Elements.{All-take}
use Rattle.ja_base.specs.Circuit.{Circuit, Problem}
use Rattle.ja_base.specs.Valuation.{next_state, MeetsConstraints}
use Rattle.ja_base.specs.Runs.{Trace, IsRun, IsLocalFailure, IsFirstBroken}
use Rattle.ja_base.specs.Laws.{cut}

front_of_all : {X : Type 0} (P : X → Type 0) (front back : List X) → All P (front ++ back) → All P front
front_of_all P front back h = subst (All P) (take-append_seam front back) (All-take P (length front) (front ++ back) h)

front_of_run : (c : Circuit) (s : List Bool) (rows front back : List (List Bool)) → IsRun c s rows (front ++ back)
    → IsRun c s (take (length front) rows) front
front_of_run c s [] [] back r = tt
front_of_run c s (x ∷ rows) [] back r = tt
front_of_run c s [] (v ∷ front) back r = absurd r
front_of_run c s (x ∷ rows) (v ∷ front) back r = (r.0, front_of_run c (next_state c v) rows front back r.1)

pub first_broken_fails_locally : (t : Problem) (m : Trace) (p : ℕ) (b : IsFirstBroken t m p)
    → IsLocalFailure t p (cut m (length b.before + 1))
first_broken_fails_locally t m p b =
    let front : List (List Bool) = b.before ++ b.at ∷ [] in
    let long : length front ≡ length b.before + 1 = length-append b.before (b.at ∷ []) in
    let same : b.before ++ b.at ∷ b.after ≡ front ++ b.after = sym (append_assoc b.before (b.at ∷ []) b.after) in
    record {
      earlier = b.before;
      last = b.at;
      reached = record {
        legal = record {
          replay = record {
            starts = b.legal.replay.starts;
            runs = subst (λ n. IsRun t.circuit m.first (take n m.inputs) front) long
                (front_of_run t.circuit m.first m.inputs front b.after
                (subst (λ steps. IsRun t.circuit m.first m.inputs steps) same b.legal.replay.runs));
            has_step = omega (arith, long);
          };
          constrained = front_of_all (MeetsConstraints t.circuit) front b.after
              (subst (λ steps. All (MeetsConstraints t.circuit) steps) same b.legal.constrained);
        };
        held = b.held;
      };
      bad = b.bad;
    }
