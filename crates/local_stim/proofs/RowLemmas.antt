-- Reading input rows one after the other, as a loop does.
use Rattle.std.proofs.Common.{◌≡◌, ℕ, suc, ◌-◌, ◌+◌, ◌≤◌, ◌<◌, Bool, List, [], ◌∷◌, ◌++◌, Some, None, Result, Ok, Err, refl, sym, ap, ◌∙◌, append_assoc, arith}
use Rattle.std.proofs.lemmas.List.{append-nil}
use Rattle.ja_base.specs.declared.memory.OrMemory.{OrMemory}
use Rattle.ja_base.specs.declared.memory.OrMemory.TheVariants as or_memory
use Rattle.ja_text.specs.Reading.{◌>>=◌, Fails}
use Rattle.local_stim.specs.declared.refusal.StimRefusal.{StimRefusal}
use Rattle.local_stim.specs.StimulusReading.{rows_at, with_rows, next_row_at, dot_at}

-- a number of rows of which one is still to come
one_more : (most done : ℕ) → done < most → most - done ≡ suc (most - (done + 1))
one_more most done lt = omega arith

regroup : (front : List (List Bool)) (row : List Bool) (read : Result (List (List Bool)) StimRefusal)
    → with_rows front (read >>= λ rows. Ok (row ∷ rows)) ≡ with_rows (front ++ row ∷ []) read
regroup front row (Ok rows) = ap (λ (all : List (List Bool)). Ok all) (simp append_assoc)
regroup front row (Err f) = refl

-- the row that is read next joins those so far
pub goes_on : (front : List (List Bool)) (width most done number next : ℕ) (rest : List ℕ) (row : List Bool) (after : List ℕ)
    (total : Result (List (List Bool)) StimRefusal)
    → done < most → next ≡ number + 1 → next_row_at width number rest ≡ Ok (Some (row, after))
    → with_rows front (rows_at width (most - done) number rest) ≡ total
    → with_rows (front ++ row ∷ []) (rows_at width (most - (done + 1)) next after) ≡ total
unfolding rows_at
goes_on front width most done number next rest row after total lt n h so_far =
    let one : with_rows front (rows_at width (most - done) number rest) ≡ with_rows (front ++ row ∷ [])
    (rows_at width (most - (done + 1)) (number + 1) after)
    = rw (one_more most done lt, h) (regroup front row (rows_at width (most - (done + 1)) (number + 1) after)) in
    rw n (sym one ∙ so_far)

-- at the dot the rows so far are all
pub ends : (front : List (List Bool)) (width most done number : ℕ) (rest : List ℕ) (total : Result (List (List Bool)) StimRefusal)
    → done < most → next_row_at width number rest ≡ Ok None → with_rows front (rows_at width (most - done) number rest) ≡ total
    → total ≡ Ok front
unfolding rows_at
ends front width most done number rest total lt h so_far =
    let one : with_rows front (rows_at width (most - done) number rest) ≡ Ok front
    = rw (one_more most done lt, h) (ap (λ (rows : List (List Bool)). Ok rows) (append-nil front)) in
    sym so_far ∙ one

-- a row that is refused refuses the text
pub fails : (e : OrMemory StimRefusal) (front : List (List Bool)) (width most done number : ℕ) (rest : List ℕ)
    (total : Result (List (List Bool)) StimRefusal)
    → done < most → Fails e (next_row_at width number rest) → with_rows front (rows_at width (most - done) number rest) ≡ total
    → Fails e total
unfolding rows_at
fails or_memory.Memory front width most done number rest total lt h so_far = tt
fails (or_memory.Refused f) front width most done number rest total lt h so_far =
    let one : with_rows front (rows_at width (most - done) number rest) ≡ Err f = rw (one_more most done lt, h) refl in
    sym so_far ∙ one

-- where no more rows are taken, what stands at the dot decides
full : (front : List (List Bool)) (width most done number : ℕ) (rest : List ℕ) → most ≤ done
    → with_rows front (rows_at width (most - done) number rest) ≡ with_rows front (dot_at number rest)
unfolding rows_at
full front width most done number rest le = let none_left : most - done ≡ 0 = omega arith in rw none_left refl

pub full_ends : (front : List (List Bool)) (width most done number last : ℕ) (rest : List ℕ)
    (total : Result (List (List Bool)) StimRefusal)
    → most ≤ done → last ≡ number → dot_at last rest ≡ Ok [] → with_rows front (rows_at width (most - done) number rest) ≡ total
    → total ≡ Ok front
full_ends front width most done number last rest total le n h so_far =
    sym so_far ∙ (full front width most done number rest le
    ∙ rw (← n, h) (ap (λ (rows : List (List Bool)). Ok rows) (append-nil front)))

pub full_fails : (e : OrMemory StimRefusal) (front : List (List Bool)) (width most done number last : ℕ) (rest : List ℕ)
    (total : Result (List (List Bool)) StimRefusal)
    → most ≤ done → last ≡ number → Fails e (dot_at last rest) → with_rows front (rows_at width (most - done) number rest) ≡ total
    → Fails e total
full_fails or_memory.Memory front width most done number last rest total le n h so_far = tt
full_fails (or_memory.Refused f) front width most done number last rest total le n h so_far =
    sym so_far ∙ (full front width most done number rest le ∙ rw (← n, h) refl)
