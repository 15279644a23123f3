-- What is left to do falls with each cube that waited, and ends.
use Rattle.std.proofs.Common.{◌≡◌, ℕ, suc, zero, ◌+◌, ◌*◌, ◌-◌, ◌^◌, ◌<◌, ◌≤◌, List, [], ◌∷◌, ◌++◌, length, take, drop, slice_get, Option, None, Some, sym, ap, ◌∙◌, subst, arith}
use Rattle.std.specs.Prelude.{All}
use Rattle.std.proofs.lemmas.List.Elements.{All-append, All-drop, All-take}
use Rattle.std.proofs.lemmas.Option.{get_or_from_slice_get, slice_get_within}
use Rattle.aig_model.specs.Task.{VerificationTask}
use Rattle.local_stim.specs.Found.{FoundFailure}
use Rattle.ic3_general.specs.declared.aim.Aim.{Aim}
use Rattle.ic3_frames.specs.Levels.{Levels}
use Rattle.ic3_frames.specs.Sums.{potential}
use Rattle.ic3_frames.proofs.TopLemmas.{sum_is_bounded}
use Rattle.ic3_oblig.specs.declared.obligation.Obligation.{Obligation}
use Rattle.ic3_oblig.specs.Lowest.{IsTaken}
use Rattle.ic3_engine.specs.Clearing.{GoesOn, Passes, work_left}
use Rattle.ic3_engine.specs.Searching.{latch_vars}
use Rattle.ic3_engine.specs.Turns.{Blocks, Descends, Fails, State, state}
use Rattle.ic3_query.specs.Known.{KnownList}
use Rattle.ic3_engine.specs.Waiting.{AreWaiting, IsWaiting}

-- ---- sums

less_work : (bound old new top queue longer : ℕ) → old < new → new ≤ bound → longer ≤ top
    → (bound - new) * (top + 1) + (queue + longer) ≤ (bound - old) * (top + 1) + queue
less_work bound old new top queue longer rises within few =
    let d = bound - new in
    let more : bound - old ≡ d + (new - old) = omega (arith, rises, within) in
    let one : 1 ≤ new - old = omega (arith, rises) in
    subst (λ n. d * (top + 1) + (queue + longer) ≤ n * (top + 1) + queue) (sym more) (grown d (new - old) (top + 1) queue longer one (omega (arith, few)))
  where
    times_one : (n m : ℕ) → 1 ≤ n → m ≤ n * m
    times_one zero m h = absurd (omega (arith, h))
    times_one (suc n) m h = let e : suc n * m ≡ m + n * m = grind arith in omega (arith, e)

    grown : (a b m queue longer : ℕ) → 1 ≤ b → longer ≤ m → a * m + (queue + longer) ≤ (a + b) * m + queue
    grown a b m queue longer h few =
        let e : (a + b) * m ≡ a * m + b * m = grind arith in
        let f = times_one b m h in
        omega (arith, e, f, few)

pub blocks_goes_on : (t : VerificationTask) (a : Aim) (longer : ℕ) (old new : State) → Blocks t a longer old new → GoesOn t a old new
blocks_goes_on t a longer old new b = record { searching = b.searching; top = b.top; rises = omega (arith, b.rises) }

pub fails_goes_on : (t : VerificationTask) (a : Aim) (longer : ℕ) (old new : State) (failure : FoundFailure) → Fails t a longer old new failure
    → GoesOn t a old new
fails_goes_on t a longer old new failure h = record {
  searching = h.searching;
  top = ap (λ (f : Levels). f.top) h.frames;
  rises = subst (λ (f : Levels). potential (latch_vars t.design) f.kept ≤ potential (latch_vars t.design) new.frames.kept) h.frames (omega arith);
}

-- a cube that was blocked leaves no more to do
pub blocks_pass : (t : VerificationTask) (a : Aim) (longer : ℕ) (old new : State) → longer ≤ old.frames.top → Blocks t a longer old new
    → work_left t new ≤ work_left t old
blocks_pass t a longer old new few b =
    let vars = latch_vars t.design in
    let within = sum_is_bounded vars new.frames b.searching.search.core.levels in
    let here = subst (λ top. potential vars new.frames.kept ≤ 3 ^ length vars * top) b.top within in
    let less = less_work (3 ^ length vars * old.frames.top) (potential vars old.frames.kept) (potential vars new.frames.kept)
    old.frames.top (length old.queue) longer b.rises here few in
    let work : ℕ = (3 ^ length vars * old.frames.top - potential vars new.frames.kept) * (old.frames.top + 1) + length new.queue in
    let same : work_left t new ≡ work =
    ap (λ top. (3 ^ length vars * top - potential vars new.frames.kept) * (top + 1) + length new.queue) b.top in
    omega (arith, less, same, b.queue)

pub descends_pass : (t : VerificationTask) (a : Aim) (level : ℕ) (old new : State) (found : Option FoundFailure) → level ≤ old.frames.top
    → Descends t a level old new found → Passes t a old new found
descends_pass t a level old new None high b = (blocks_goes_on t a level old new b, blocks_pass t a level old new high b)
descends_pass t a level old new (Some failure) high h = (fails_goes_on t a level old new failure h, h.found)

-- ---- what waits once one is taken

taken_length : {X : Type 0} (xs : List X) (k : ℕ) (x : X) → slice_get xs k ≡ Some x
    → length (take k xs ++ drop (k + 1) xs) + 1 ≡ length xs
taken_length [] k x is = absurd cc
taken_length (y ∷ xs) zero x is = omega arith
taken_length (y ∷ xs) (suc k) x is =
    let h = taken_length xs k x is in
    let e : suc k + 1 ≡ suc (k + 1) = omega arith in
    rw e (omega (arith, h))

pub queue_is_shorter : (before after : List Obligation) (taken : Obligation) → IsTaken before taken after → length after + 1 ≡ length before
queue_is_shorter before after taken h = ap (λ (xs : List Obligation). length xs + 1) h.rest ∙ taken_length before h.place taken h.is

all_but_one : {X : Type 0} (P : X → Type 0) (xs : List X) (k : ℕ) → All P xs → All P (take k xs ++ drop (k + 1) xs)
all_but_one P xs k all = All-append P (take k xs) (drop (k + 1) xs) (All-take P k xs all) (All-drop P (k + 1) xs all)

pub taken_waits : (t : VerificationTask) (a : Aim) (top : ℕ) (before after : List Obligation) (taken : Obligation) → AreWaiting t a top before
    → IsTaken before taken after → IsWaiting t a top taken
taken_waits t a top before after taken all h =
    subst (IsWaiting t a top) (get_or_from_slice_get before h.place taken taken h.is) (all h.place taken (slice_get_within before h.place taken h.is))

pub others_wait : (t : VerificationTask) (a : Aim) (top : ℕ) (before after : List Obligation) (taken : Obligation) → AreWaiting t a top before
    → IsTaken before taken after → AreWaiting t a top after
others_wait t a top before after taken all h = subst (AreWaiting t a top) (sym h.rest) (all_but_one (IsWaiting t a top) before h.place all)

pub taken_is_less : (t : VerificationTask) (new : State) (known : KnownList) (f : Levels) (before after : List Obligation)
    (count : ℕ) (added : List (List ℕ)) (taken : Obligation) → work_left t new ≤ work_left t (state known f after count added)
    → IsTaken before taken after → work_left t new < work_left t (state known f before count added)
taken_is_less t new known f before after count added taken le h =
    let shorter = queue_is_shorter before after taken h in omega (arith, le, shorter)
