-- One line: what is read of it, it says, and what it says is read.
use Rattle.std.proofs.Common.{◌≡◌, ℕ, Bool, true, false, List, [], ◌∷◌, ◌++◌, Option, Some, None, option_map, refl, ap, subst, ◌∙◌, eqb-true}
use Rattle.ja_text.specs.Numbers.{IsNumber, number_at, whole_number}
use Rattle.ja_text.specs.Lines.{word_at}
use Rattle.ja_text.proofs.ByteLemmas.{word_takes, word_again}
use Rattle.ja_text.proofs.NumberLemmas.{whole_number_takes, whole_number_again}
use Rattle.expect_file.specs.declared.line.Entry.{Entry}
use Rattle.expect_file.specs.ExpectationsText.{word, IsRemark, Says}
use Rattle.expect_file.specs.ExpectationsReading.{is_remark, entry_with, hold_or_fail, entry_of}

-- ---- a line that says nothing

pub remark_takes : (line : List ℕ) → is_remark line ≡ true → IsRemark line
remark_takes [] h = tt
remark_takes (c ∷ cs) h = eqb-true c 35 h

pub remark_again : (line : List ℕ) → IsRemark line → is_remark line ≡ true
remark_again [] h = refl
remark_again (c ∷ cs) h = rw h refl

word_is_no_remark : (holds : Bool) (number : List ℕ) → is_remark (word holds ++ number) ≡ false
word_is_no_remark true number = refl
word_is_no_remark false number = refl

pub entry_is_no_remark : (line : List ℕ) (entry : Entry) → Says line entry → is_remark line ≡ false
entry_is_no_remark line entry says = ap is_remark says.2 ∙ word_is_no_remark entry.holds says.0

-- ---- a line that says an entry

with_takes : (holds : Bool) (digits : List ℕ) (number : Option ℕ) (entry : Entry) → whole_number (number_at digits) ≡ number
    → option_map (λ p. record { property = p; holds = holds }) number ≡ Some entry → IsNumber digits entry.property
    × (holds ≡ entry.holds)
with_takes holds digits None entry e h = absurd cc
with_takes holds digits (Some p) entry e h =
    let same : ◌≡◌ {A = Entry} (record { property = p; holds = holds }) entry = cc in
    (subst (λ (x : Entry). IsNumber digits x.property) same (whole_number_takes digits p e), ap (λ (x : Entry). x.holds) same)

says_word : (holds : Bool) (line digits : List ℕ) (entry : Entry) → line ≡ word holds ++ digits
    → entry_with holds digits ≡ Some entry → Says line entry
says_word holds line digits entry parts h =
    let w = with_takes holds digits (whole_number (number_at digits)) entry refl h in
    (digits, w.0, parts ∙ ap (λ (k : Bool). word k ++ digits) w.1)

entry_step : (hold fail : Option (List ℕ)) (line : List ℕ) (entry : Entry) → word_at (word true) line ≡ hold
    → word_at (word false) line ≡ fail → hold_or_fail hold fail ≡ Some entry → Says line entry
entry_step (Some digits) fail line entry e d h = says_word true line digits entry (word_takes (word true) line digits e) h
entry_step None (Some digits) line entry e d h = says_word false line digits entry (word_takes (word false) line digits d) h
entry_step None None line entry e d h = absurd cc

pub entry_takes : (line : List ℕ) (entry : Entry) → entry_of line ≡ Some entry → Says line entry
unfolding entry_of
entry_takes line entry h = entry_step (word_at (word true) line) (word_at (word false) line) line entry refl refl h

with_again : (holds : Bool) (number : List ℕ) (n : ℕ) → IsNumber number n
    → entry_with holds number ≡ Some (record { property = n; holds = holds })
with_again holds number n h =
    let read = whole_number_again number n h in
    rw read refl

entry_word_again : (holds : Bool) (number : List ℕ) (n : ℕ) → IsNumber number n
    → entry_of (word holds ++ number) ≡ Some (record { property = n; holds = holds })
unfolding entry_of word_at
entry_word_again true number n h = ap (λ (hold : Option (List ℕ)). hold_or_fail hold (word_at (word false) (word true ++ number)))
    (word_again (word true) number) ∙ with_again true number n h
entry_word_again false number n h = ap (λ (fail : Option (List ℕ)). hold_or_fail None fail) (word_again (word false) number)
    ∙ with_again false number n h

pub entry_again : (line : List ℕ) (entry : Entry) → Says line entry → entry_of line ≡ Some entry
entry_again line entry says = ap entry_of says.2 ∙ entry_word_again entry.holds says.0 entry.property says.1
