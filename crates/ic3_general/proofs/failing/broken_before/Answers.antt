use Rattle.std.proofs.Common.{List, Bool, sym, ap, ◌∙◌, subst, arith}
use Rattle.ja_base.specs.Runs.{IsLocalFailure, Trace}
use Rattle.aig_model.specs.Task.{VerificationTask, problem}
use Rattle.local_stim.specs.Found.{FoundFailure}
use Rattle.local_stim.specs.Verdict.{IsVerdict}
use Rattle.ic3_general.proofs.EarlyLemmas.{break_is_within, early_fails, early_failure_is_on, none_is_left, refused_early}
use Rattle.ic3_general.proofs.failing.broken_before.Goals as goal

pub overflow_add-step : goal.overflow_add-step
overflow_add-step c =
    let m : Trace = record { first = c.args.first; inputs = c.args.chain.now } in
    let b = subst (IsVerdict (problem c.args.coded.now) c.args.aim.now.prop m) c.in-Assumed.is c.requires.verdict in
    let within = break_is_within (problem c.args.coded.now) c.args.aim.now.prop m c.in-Assumed.step c.in-Assumed.prop b in
    omega (arith, within, c.len-rows.ensures.len, c.len-rows.type_inv)

pub beginning-requires-clause-within : goal.beginning-requires-clause-within
beginning-requires-clause-within c =
    let m : Trace = record { first = c.args.first; inputs = c.args.chain.now } in
    let b = subst (IsVerdict (problem c.args.coded.now) c.args.aim.now.prop m) c.in-Assumed.is c.requires.verdict in
    let within = break_is_within (problem c.args.coded.now) c.args.aim.now.prop m c.in-Assumed.step c.in-Assumed.prop b in
    omega (arith, within)

pub accepted-requires-clause-fails : goal.accepted-requires-clause-fails
accepted-requires-clause-fails c =
    let t : VerificationTask = c.args.coded.now in
    let m : Trace = record { first = c.args.first; inputs = c.args.chain.now } in
    let b = subst (IsVerdict (problem t) c.args.aim.now.prop m) c.in-Assumed.is c.requires.verdict in
    let fails = early_fails (problem t) c.args.aim.now.prop m c.in-Assumed.step c.in-Assumed.prop b in
    let stim = c.new.ensures
    ∙ ap (λ (rows : List (List Bool)). record { first = c.args.first; inputs = rows }) c.in_ok-inputs-in-Assumed.ensures in
    subst (IsLocalFailure (problem t) c.in-Assumed.prop) (sym stim) fails

pub unreachable-requires : goal.unreachable-requires
unreachable-requires c =
    let m : Trace = record { first = c.args.first; inputs = c.args.chain.now } in
    let early = refused_early c.args.coded.now c.task-task.ensures.sound c.args.aim.now.respect c.args.aim.now.prop m c.args.why
    c.requires.fails c.requires.verdict in
    none_is_left c.args.why early c.requires.not_local c.in_default.not-Assumed

pub returns-clause-on : goal.returns-clause-on
returns-clause-on c =
    let t : VerificationTask = c.args.coded.now in
    let m : Trace = record { first = c.args.first; inputs = c.args.chain.now } in
    let b = subst (IsVerdict (problem t) c.args.aim.now.prop m) c.in-Assumed.is c.requires.verdict in
    early_failure_is_on t c.args.aim.now m c.in-Assumed.step c.in-Assumed.prop c.in_ok-failure-in-Assumed.failure
    c.task-task.ensures.sound c.requires.fails b (ap (λ (f : FoundFailure). f.task) c.in_ok-failure-in-Assumed.ensures)
    (ap (λ (f : FoundFailure). f.prop) c.in_ok-failure-in-Assumed.ensures)
