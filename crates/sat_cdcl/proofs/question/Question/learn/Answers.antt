use Rattle.std.proofs.Common.{ℕ, List, Bool, [], ◌∷◌, ◌++◌, sym, subst, ◌∙◌, ap}
use Rattle.std.specs.List.{All}
use Rattle.std.proofs.lemmas.Bool.{OnFalse_at}
use Rattle.sat_plain.specs.Trails.{Assigned}
use Rattle.sat_cdcl.specs.declared.question.Question.{Question}
use Rattle.sat_cdcl.specs.Files.{Filed, list_of}
use Rattle.sat_cdcl.specs.Questions.{IsLearning, IsKeepable}
use Rattle.sat_cdcl.proofs.FileLemmas.{kept_same}
use Rattle.sat_cdcl.proofs.QuestionLemmas.{noted_of, learning_kept, learning_push, line_clean, line_sound}
use Rattle.sat_cdcl.proofs.question.Question.learn.Goals as goal

pub returns-in_err-note-clause-learns : goal.returns-in_err-note-clause-learns
returns-in_err-note-clause-learns c = λ added extra h.
    let vars : ℕ = c.args.db.now.watched.trail.vars in
    let list : List (List ℕ) = list_of c.args.db.now in
    let q : Question = c.args.self.now in
    let q' : Question = c.note.new.self in
    learning_kept vars added extra list q q' h c.note.ensures.first c.note.ensures.taints
    (noted_of vars added extra list c.args.line.clause c.args.line.hints q c.rests_on-tainted.result q'.kept.items h c.requires
    c.rests_on-tainted.ensures (c.note.ensures.keeps vars added))

pub returns-in_err-reserve-clause-learns : goal.returns-in_err-reserve-clause-learns
returns-in_err-reserve-clause-learns c = λ added extra h.
    let vars : ℕ = c.args.db.now.watched.trail.vars in
    let list : List (List ℕ) = list_of c.args.db.now in
    let q : Question = c.args.self.now in
    let n : Question = c.note.new.self in
    let q' : Question = record { query = n.query; first = n.first; taints = c.reserve.new.self; kept = n.kept } in
    learning_kept vars added extra list q q' h c.note.ensures.first (c.reserve.ensures.items ∙ c.note.ensures.taints)
    (noted_of vars added extra list c.args.line.clause c.args.line.hints q c.rests_on-tainted.result q'.kept.items h c.requires
    c.rests_on-tainted.ensures (c.note.ensures.keeps vars added))

pub returns-in_err-slot-clause-learns : goal.returns-in_err-slot-clause-learns
returns-in_err-slot-clause-learns c = λ added extra h.
    let vars : ℕ = c.args.db.now.watched.trail.vars in
    let list : List (List ℕ) = list_of c.args.db.now in
    let q : Question = c.args.self.now in
    let n : Question = c.note.new.self in
    let q' : Question = record { query = n.query; first = n.first; taints = c.reserve.new.self; kept = n.kept } in
    let P : Filed → Type 0 = λ f. IsLearning f.watched.trail.vars added extra (list_of f) q' in
    subst P (sym c.in_err-slot.ensures.err)
    (learning_kept vars added extra list q q' h c.note.ensures.first (c.reserve.ensures.items ∙ c.note.ensures.taints)
    (noted_of vars added extra list c.args.line.clause c.args.line.hints q c.rests_on-tainted.result q'.kept.items h c.requires
    c.rests_on-tainted.ensures (c.note.ensures.keeps vars added)))

pub returns-in_err-slot-clause-kept : goal.returns-in_err-slot-clause-kept
returns-in_err-slot-clause-kept c = kept_same c.args.db.now c.put.new.self c.in_err-slot.ensures.err

pub returns-clause-learns : goal.returns-clause-learns
returns-clause-learns c = λ added extra h.
    let vars : ℕ = c.args.db.now.watched.trail.vars in
    let list : List (List ℕ) = list_of c.args.db.now in
    let clause : List ℕ = c.args.line.clause in
    let q : Question = c.args.self.now in
    let n : Question = c.note.new.self in
    let b : Bool = c.rests_on-tainted.result in
    let q' : Question = record { query = n.query; first = n.first; taints = c.push_reserved.new.self; kept = n.kept } in
    let V : Assigned → Type 0 = λ t. IsLearning t.vars added extra (list_of c.put.new.self) q' in
    let L : List (List ℕ) → Type 0 = λ v. IsLearning vars added extra v q' in
    let keeps : All (IsKeepable vars added) n.kept.items =
    noted_of vars added extra list clause c.args.line.hints q b n.kept.items h c.requires c.rests_on-tainted.ensures
    (c.note.ensures.keeps vars added) in
    subst V (sym c.in_ok-slot.ensures.trail)
    (subst L (sym c.in_ok-slot.ensures.list)
    (learning_push vars added extra list clause b q q' h c.note.ensures.first
    (c.push_reserved.ensures.items ∙ ap (λ v. v ++ b ∷ []) (c.reserve.ensures.items ∙ c.note.ensures.taints)) keeps
    (line_sound vars added extra list vars clause c.args.line.hints q h c.requires)
    (λ f. line_clean vars added extra list vars clause c.args.line.hints q h c.requires
    (OnFalse_at f c.rests_on-tainted.ensures))))
