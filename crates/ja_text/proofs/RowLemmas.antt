-- A row is read as it is spelled, and what is spelled so is read so.
use Rattle.std.proofs.Common.{◌≡◌, ℕ, zero, suc, ◌+◌, ◌-◌, ◌<◌, ◌≤◌, Bool, true, false, cond, eqb, List, [], ◌∷◌, ◌++◌, length, take, set, replicate, Option, Some, None, option_map, refl, sym, ap, subst, ◌∙◌, ◌⊎◌, inl, inr, arith, append_assoc, length-append, add-one, eqb-true}
use Rattle.std.specs.List.{AllByRecursion}
use Rattle.std.proofs.lemmas.Option.{same_Some, option_and_then_some, some_pair_parts}
use Rattle.std.proofs.lemmas.List.{length-replicate}
use Rattle.std.proofs.Math.Seq.{set-append_seam, take-suc-set}
use Rattle.ja_text.specs.Numbers.{IsDigit, IsNumber, TakesNumber, number_at}
use Rattle.ja_text.specs.Lines.{space_at, newline_at, IsOneLine}
use Rattle.ja_text.specs.Rows.{IsRow, TakesRow, row_behind, row_at}
use Rattle.ja_text.specs.Padded.{padded}
use Rattle.ja_text.proofs.NumberLemmas.{number_takes, number_again}
use Rattle.ja_text.proofs.ByteLemmas.{space_takes, newline_takes}

-- ---- what is read is spelled so

-- behind n the row ends, or it goes on
Behind : (List ℕ → Option (List ℕ × List ℕ)) → ℕ → List ℕ → List ℕ × List ℕ → Type 0
Behind others n after x =
    ((rest : List ℕ) × (after ≡ 10 ∷ rest) × (x ≡ (n ∷ [], rest)))
    ⊎ ((more : List ℕ) × (y : List ℕ × List ℕ) × (after ≡ 32 ∷ more) × (others more ≡ Some y) × (x ≡ (n ∷ y.0, y.1)))

goes_on : (others : List ℕ → Option (List ℕ × List ℕ)) (n : ℕ) (bs : List ℕ) (o : Option (List ℕ × List ℕ)) (x : List ℕ × List ℕ)
    → others bs ≡ o
    → option_map (λ r. (n ∷ r.0, r.1)) o ≡ Some x → Behind others n (32 ∷ bs) x
unfolding Behind
goes_on others n bs None x e h = absurd cc
goes_on others n bs (Some y) x e h = inr (bs, y, refl, e, sym (same_Some (n ∷ y.0, y.1) x h))

behind_step : (s t : Bool) (others : List ℕ → Option (List ℕ × List ℕ)) (n b : ℕ) (bs : List ℕ) (x : List ℕ × List ℕ)
    → s ≡ eqb b 10 → t ≡ eqb b 32
    → cond s (Some (n ∷ [], bs)) (cond t (option_map (λ r. (n ∷ r.0, r.1)) (others bs)) None) ≡ Some x
    → Behind others n (b ∷ bs) x
unfolding Behind
behind_step true t others n b bs x d e h = inl
    (bs, ap (λ (k : ℕ). k ∷ bs) (eqb-true b 10 (sym d)), sym (same_Some (n ∷ [], bs) x h))
behind_step false true others n b bs x d e h =
    subst (λ (k : ℕ). Behind others n (k ∷ bs) x) (sym (eqb-true b 32 (sym e))) (goes_on others n bs (others bs) x refl h)
behind_step false false others n b bs x d e h = absurd cc

behind : (others : List ℕ → Option (List ℕ × List ℕ)) (n : ℕ) (after : List ℕ) (x : List ℕ × List ℕ)
    → row_behind others n after ≡ Some x → Behind others n after x
behind others n [] x h = absurd cc
behind others n (b ∷ bs) x h = behind_step (eqb b 10) (eqb b 32) others n b bs x refl refl h

IsRow-cons : (number others : List ℕ) (n : ℕ) (ns : List ℕ) → IsNumber number n → IsRow others ns
    → IsRow (number ++ 32 ∷ others) (n ∷ ns)
IsRow-cons number others n [] h r = absurd r
IsRow-cons number others n (m ∷ ns) h r = (number, others, h, refl, r)

row_with : (most : ℕ) (bytes : List ℕ) (n : ℕ) (after : List ℕ) (x : List ℕ × List ℕ) → TakesNumber bytes n after
    → ((more : List ℕ) (y : List ℕ × List ℕ) → row_at most more ≡ Some y → TakesRow most more y.0 y.1)
    → Behind (row_at most) n after x → TakesRow (suc most) bytes x.0 x.1
unfolding Behind
row_with most bytes n after x t ih (inl h) =
    let parts : bytes ≡ (t.number.text ++ 10 ∷ []) ++ h.0 = t.number.parts ∙ ap (λ (k : List ℕ). t.number.text ++ k) h.1
    ∙ sym (append_assoc t.number.text (10 ∷ []) h.0) in
    let taken : TakesRow (suc most) bytes
    (n ∷ []) h.0 = record {
      row = record {
        text = t.number.text ++ 10 ∷ [];
        form =
            (t.number.text, t.number.form, refl);
        parts = parts;
      };
      few = omega arith;
    } in
    subst (λ (y : List ℕ × List ℕ). TakesRow (suc most) bytes y.0 y.1) (sym h.2) taken
row_with most bytes n after x t ih (inr h) =
    let y = h.1 in
    let r = ih h.0 y h.3 in
    let parts : bytes ≡ (t.number.text ++ 32 ∷ r.row.text) ++ y.1 = t.number.parts
    ∙ ap (λ (k : List ℕ). t.number.text ++ k) (h.2 ∙ ap (λ (k : List ℕ). 32 ∷ k) r.row.parts)
    ∙ sym (append_assoc t.number.text (32 ∷ r.row.text) y.1) in
    let taken : TakesRow (suc most) bytes
    (n ∷ y.0) y.1 = record {
      row = record {
        text = t.number.text ++ 32 ∷ r.row.text;
        form = IsRow-cons t.number.text r.row.text n y.0 t.number.form r.row.form;
        parts = parts;
      };
      few = omega (arith, r.few);
    } in
    subst (λ (z : List ℕ × List ℕ). TakesRow (suc most) bytes z.0 z.1) (sym h.4) taken

pub row_takes : (most : ℕ) (bytes : List ℕ) (x : List ℕ × List ℕ) → row_at most bytes ≡ Some x → TakesRow most bytes x.0 x.1
unfolding row_at
row_takes zero bytes x e = absurd cc
row_takes (suc most) bytes x e =
    option_and_then_some (λ n. row_behind (row_at most) n.0 n.1) (number_at bytes) x e
    (λ n read h. row_with most bytes n.0 n.1 x (number_takes bytes n.0 n.1 read) (λ more y g. row_takes most more y g)
    (behind (row_at most) n.0 n.1 x h))

-- ---- what is spelled so is read so

pub row_again : (most : ℕ) (text ns rest : List ℕ) → IsRow text ns → length ns ≤ most
    → row_at most (text ++ rest) ≡ Some (ns, rest)
unfolding row_at
row_again most text [] rest h few = absurd h
row_again zero text (n ∷ ns) rest h few = absurd (omega arith)
row_again (suc most) text (n ∷ []) rest h few =
    let regrouped : text ++ rest ≡ h.0 ++ 10 ∷ rest = ap (λ (k : List ℕ). k ++ rest) h.2 ∙ append_assoc h.0 (10 ∷ []) rest in
    ap (row_at (suc most)) regrouped ∙ rw (number_again h.0 (10 ∷ rest) n h.1 refl) refl
row_again (suc most) text (n ∷ m ∷ ns) rest h few =
    let regrouped : text ++ rest ≡ h.0 ++ 32 ∷ (h.1 ++ rest) = ap (λ (k : List ℕ). k ++ rest) h.3
    ∙ append_assoc h.0 (32 ∷ h.1) rest in
    ap (row_at (suc most)) regrouped
    ∙ rw (number_again h.0 (32 ∷ (h.1 ++ rest)) n h.2 refl, row_again most h.1 (m ∷ ns) rest h.4 (omega arith)) refl

-- one text cannot be read as two rows
pub row_one : (a b x y ms ns : List ℕ) → IsRow a ms → IsRow b ns → a ++ x ≡ b ++ y → (ms ≡ ns) × (x ≡ y)
row_one a b x y ms ns g h e =
    let most = length ms + length ns in
    some_pair_parts ms ns x y
    (sym (row_again most a ms x g (omega arith)) ∙ ap (row_at most) e ∙ row_again most b ns y h (omega arith))

-- ---- a row is a line

digits_in_line : (text : List ℕ) → AllByRecursion IsDigit text → IsOneLine text
digits_in_line [] h = tt
digits_in_line (d ∷ ds) h = (omega arith, digits_in_line ds h.1)

IsOneLine-append : (a b : List ℕ) → IsOneLine a → IsOneLine b → IsOneLine (a ++ b)
IsOneLine-append [] b g h = h
IsOneLine-append (x ∷ xs) b g h = (g.0, IsOneLine-append xs b g.1 h)

pub row_line : (text ns : List ℕ) → IsRow text ns → (line : List ℕ) × IsOneLine line × (text ≡ line ++ 10 ∷ [])
row_line text [] h = absurd h
row_line text (n ∷ []) h = (h.0, digits_in_line h.0 h.1.digits, h.2)
row_line text (n ∷ m ∷ ns) h =
    let others = row_line h.1 (m ∷ ns) h.4 in
    let one_line : IsOneLine (h.0 ++ 32 ∷ others.0) = IsOneLine-append h.0 (32 ∷ others.0) (digits_in_line h.0 h.2.digits)
    (omega arith, others.1) in (
      h.0 ++ 32 ∷ others.0,
      one_line,
      h.3 ∙ ap (λ (k : List ℕ). h.0 ++ 32 ∷ k) others.2
          ∙ sym (append_assoc h.0 (32 ∷ others.0) (10 ∷ [])),
    )

-- ---- reading number after number, as a loop does

-- the numbers before, and those of the row that is still read
abbrev pub with_numbers : List ℕ → Option (List ℕ × List ℕ) → Option (List ℕ × List ℕ)
with_numbers front read = option_map (λ r. (front ++ r.0, r.1)) read

unread : (front : List ℕ) (place : ℕ) (bytes : List ℕ) (n : ℕ) (after : List ℕ) → place < 9 → number_at bytes ≡ Some (n, after)
    → with_numbers front (row_at (9 - place) bytes) ≡ with_numbers front (row_behind (row_at (9 - (place + 1))) n after)
unfolding row_at
unread front place bytes n after lt read =
    let left : 9 - place ≡ suc (9 - (place + 1)) = omega arith in
    rw (left, read) refl

regroup : (front : List ℕ) (n : ℕ) (read : Option (List ℕ × List ℕ))
    → with_numbers front (option_map (λ r. (n ∷ r.0, r.1)) read) ≡ with_numbers (front ++ n ∷ []) read
regroup front n None = refl
regroup front n (Some r) = ap (λ (ns : List ℕ). Some (ns, r.1)) (sym (append_assoc front (n ∷ []) r.0))

-- a number and a space are read
pub row_goes_on : (front : List ℕ) (place : ℕ) (bytes : List ℕ) (n : ℕ) (after rest : List ℕ) (total : Option (List ℕ × List ℕ))
    → place < 9 → number_at bytes ≡ Some (n, after) → space_at after ≡ Some rest
    → with_numbers front (row_at (9 - place) bytes) ≡ total
    → with_numbers (front ++ n ∷ []) (row_at (9 - (place + 1)) rest) ≡ total
row_goes_on front place bytes n after rest total lt read next so_far =
    let one : row_behind (row_at (9 - (place + 1))) n after ≡ option_map (λ r. (n ∷ r.0, r.1))
    (row_at (9 - (place + 1)) rest) = rw (space_takes after rest next) refl in
    sym (regroup front n (row_at (9 - (place + 1)) rest)) ∙ ap (with_numbers front) (sym one)
    ∙ sym (unread front place bytes n after lt read) ∙ so_far

-- a number and the LF are read
pub row_ends : (front : List ℕ) (place : ℕ) (bytes : List ℕ) (n : ℕ) (after rest : List ℕ) (total : Option (List ℕ × List ℕ))
    → place < 9 → number_at bytes ≡ Some (n, after) → newline_at after ≡ Some rest
    → with_numbers front (row_at (9 - place) bytes) ≡ total → total ≡ Some (front ++ n ∷ [], rest)
row_ends front place bytes n after rest total lt read next so_far =
    let one : row_behind (row_at (9 - (place + 1))) n after ≡ Some (n ∷ [], rest) = rw (newline_takes after rest next) refl in
    sym so_far ∙ unread front place bytes n after lt read ∙ ap (with_numbers front) one

-- no number is read
pub row_lacks_number : (front : List ℕ) (place : ℕ) (bytes : List ℕ) (total : Option (List ℕ × List ℕ)) → place < 9
    → number_at bytes ≡ None
    → with_numbers front (row_at (9 - place) bytes) ≡ total → total ≡ None
unfolding row_at
row_lacks_number front place bytes total lt read so_far =
    let left : 9 - place ≡ suc (9 - (place + 1)) = omega arith in
    sym so_far ∙ rw (left, read) refl

ends_neither : (s t : Bool) (n b : ℕ) (bs : List ℕ) (others : List ℕ → Option (List ℕ × List ℕ)) → cond s (Some bs) None ≡ None
    → cond t (Some bs) None ≡ None
    → cond {A = Option (List ℕ × List ℕ)} s (Some (n ∷ [], bs))
    (cond t (option_map (λ r. (n ∷ r.0, r.1)) (others bs)) None) ≡ None
ends_neither true t n b bs others g h = absurd cc
ends_neither false true n b bs others g h = absurd cc
ends_neither false false n b bs others g h = refl

neither : (others : List ℕ → Option (List ℕ × List ℕ)) (n : ℕ) (after : List ℕ) → newline_at after ≡ None → space_at after ≡ None
    → row_behind others n after ≡ None
unfolding newline_at space_at
neither others n [] g h = refl
neither others n (b ∷ bs) g h = ends_neither (eqb b 10) (eqb b 32) n b bs others g h

-- behind the number neither stands
pub row_lacks_end : (front : List ℕ) (place : ℕ) (bytes : List ℕ) (n : ℕ) (after : List ℕ) (total : Option (List ℕ × List ℕ))
    → place < 9 → number_at bytes ≡ Some (n, after) → newline_at after ≡ None → space_at after ≡ None
    → with_numbers front (row_at (9 - place) bytes) ≡ total → total ≡ None
row_lacks_end front place bytes n after total lt read g h so_far =
    sym so_far ∙ unread front place bytes n after lt read
    ∙ ap (with_numbers front) (neither (row_at (9 - (place + 1))) n after g h)

-- nine numbers were read, and a space behind them
pub row_is_full : (front : List ℕ) (place : ℕ) (bytes : List ℕ) (total : Option (List ℕ × List ℕ)) → 9 ≤ place
    → with_numbers front (row_at (9 - place) bytes) ≡ total → total ≡ None
unfolding row_at
row_is_full front place bytes total le so_far =
    let left : 9 - place ≡ 0 = omega arith in
    sym so_far ∙ rw left refl

-- ---- the places that hold the numbers

padded_more : (front places : List ℕ) (n : ℕ) → length front < 9 → places ≡ padded front
    → set places (length front) n ≡ padded (front ++ n ∷ [])
padded_more front places n lt e =
    let left : 9 - length front ≡ suc (8 - length front) = omega arith in
    let fewer : 9 - length (front ++ n ∷ []) ≡ 8 - length front = omega (arith, length-append front (n ∷ [])) in
    let before : places ≡ front ++ 0 ∷ replicate (8 - length front) 0 = e ∙ ap (λ (k : ℕ). front ++ replicate k 0) left in
    ap (λ (k : List ℕ). set k (length front) n) before ∙ set-append_seam front 0 (replicate (8 - length front) 0) n
    ∙ sym (append_assoc front (n ∷ []) (replicate (8 - length front) 0))
    ∙ ap (λ (k : ℕ). (front ++ n ∷ []) ++ replicate k 0) (sym fewer)

-- so many numbers stand in the first places, and 0 in the others
pub record Holds (count : ℕ) (places : List ℕ) : Type 0 where
  pub whole : places ≡ padded (take count places)
  pub len : length (take count places) ≡ count

nine_places : (count : ℕ) (places : List ℕ) → count < 9 → Holds count places → length places ≡ 9
nine_places count places lt h =
    let k = 9 - length (take count places) in
    let sum : length places ≡ length (take count places) + k = ap length h.whole
    ∙ (length-append (take count places) (replicate k 0)
    ∙ ap (λ (n : ℕ). length (take count places) + n) (length-replicate k 0)) in
    omega (arith, h.len)

pub front_more : (count : ℕ) (places : List ℕ) (n : ℕ) → count < 9 → Holds count places
    → take (count + 1) (set places count n) ≡ take count places ++ n ∷ []
front_more count places n lt h = rw add-one (take-suc-set places count n (omega (arith, nine_places count places lt h)))

pub holds_more : (count : ℕ) (places : List ℕ) (n : ℕ) → count < 9 → Holds count places → Holds (count + 1) (set places count n)
holds_more count places n lt h =
    let front = take count places in
    let kept : set places count n ≡ padded (front ++ n ∷ []) = ap (λ (k : ℕ). set places k n) (sym h.len)
    ∙ padded_more front places n (omega (arith, h.len)) h.whole in
    record {
      whole = rw (front_more count places n lt h) kept;
      len = rw (front_more count places n lt h) (omega (arith, length-append front (n ∷ []), h.len));
    }
