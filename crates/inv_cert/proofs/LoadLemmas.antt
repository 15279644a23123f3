-- What a checker was given, clause by clause.
use Rattle.std.proofs.Common.{◌≡◌, ℕ, ◌+◌, ◌<◌, List, [], ◌∷◌, ◌++◌, length, get_or, take, append_assoc, append-nil, refl, sym, ap, ◌∙◌, add-one}
use Rattle.std.proofs.Math.Seq.{take-suc}
use Rattle.refute_check.specs.Checked.{Checked, IsAdded}
use Rattle.inv_cert.specs.Taken.{IsLoaded, Loads}

pub Loads-none : (before : Checked) → Loads before [] before
Loads-none before = record { vars_are = refl; list = sym (append-nil before.list); kept = λ e. e }

-- one more
pub Loads-more : (before now after : Checked) (clauses : List (List ℕ)) (clause : List ℕ) → Loads before clauses now
    → IsAdded now clause after
    → Loads before (clauses ++ clause ∷ []) after
Loads-more before now after clauses clause h added = record {
  vars_are = added.vars ∙ h.vars_are;
  list = added.list ∙ ap (λ (list : List (List ℕ)). list ++ clause ∷ []) h.list ∙ append_assoc before.list clauses (clause ∷ []);
  kept = λ _. added.kept;
}

pub take_one : {X : Type 0} (xs : List X) (i : ℕ) (x : X) → i < length xs → x ≡ get_or xs i x
    → take i xs ++ x ∷ [] ≡ take (i + 1) xs
take_one {X} xs i x less e =
    sym (ap (λ (k : ℕ). take k xs) (add-one i) ∙ take-suc xs i x less ∙ ap (λ (y : X). take i xs ++ y ∷ []) (sym e))

pub IsLoaded-new : (vars : ℕ) (checker : Checked) → checker ≡ record { vars = vars; list = []; spare = 0; added = []; kept = 0 }
    → IsLoaded vars [] checker
IsLoaded-new vars checker e =
    record {
      vars_are = ap (λ (k : Checked). k.vars) e;
      list = ap (λ (k : Checked). k.list) e;
      kept = ap
          (λ (k : Checked). k.kept) e;
    }

-- the clauses that came behind
pub IsLoaded-more : (vars : ℕ) (clauses more : List (List ℕ)) (before after : Checked) → IsLoaded vars clauses before
    → Loads before more after
    → IsLoaded vars (clauses ++ more) after
IsLoaded-more vars clauses more before after h loads =
    let list : after.list ≡ clauses ++ more = loads.list ∙ ap (λ (list : List (List ℕ)). list ++ more) h.list in
    record {
      vars_are = loads.vars_are ∙ h.vars_are;
      list = list;
      kept = loads.kept (h.kept ∙ ap length (sym h.list)) ∙ ap length list;
    }
