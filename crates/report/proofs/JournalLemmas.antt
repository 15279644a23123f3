-- The entries of a journal: what is taken, and where reading stops.
use Rattle.std.proofs.Common.{◌≡◌, ℕ, zero, suc, ◌+◌, ◌-◌, ◌<◌, ◌≤◌, ◌^◌, Bool, true, false, not, ◌&&◌, ◌||◌, eqb, leb, List, [], ◌∷◌, ◌++◌, length, length-take, length-drop, take, drop, take-append-drop, drop-drop, get_or, get_or-drop, slice_get, Option, Some, None, refl, sym, ap, subst, ◌∙◌, arith}
use Rattle.std.specs.Prelude.{codes, decimal, IfSome}
use Rattle.std.proofs.lemmas.Bool.Decides.{nat_tests}
use Rattle.std.proofs.Math.Seq.{take-suc}
use Rattle.std.proofs.lemmas.Option.{same_Some, slice_get_within, get_or_from_slice_get}
use Rattle.store_core.specs.declared.journal.Entry.{Entry}
use Rattle.report.specs.declared.what.Said.{Said}
use Rattle.report.specs.declared.what.What.{What}
use Rattle.report.specs.declared.what.What.TheVariants.{Draws, DrawsNone, Imports, Publishes, Settles, SettlesHad, Cancels, CancelsNot, GivesUp, GoesOn, GivesUpHad}
use Rattle.report.specs.Entries as entries
use Rattle.report.specs.Entries.{HasSmallMarks, may_append, property_of, what_of, added_by, count_behind, entry_words}
use Rattle.report.specs.Reports.{line_of, entry_lines}
use Rattle.report.specs.Forms.{Takes, Stops, times, texts_from, FitFrom}
use Rattle.report.specs.Lines.{where_true}
use Rattle.report.specs.JournalLines.{said_of, said_words, is_within, is_counted, is_due, due_of, IsDueSaid, said_form, said_next, saids_form, event_of, reply_of, between, entry_of, entries_of, entries_form}
use Rattle.report.proofs.FormLemmas.{HasSome, IsSound, IsPart, IsRead, same_stops, same_sound, line_sound, read_words}
use Rattle.report.proofs.TimesLemmas.{IsMet, state_behind, state-push, times_none, times_more, times_ends, times_sound}
use Rattle.report.proofs.TokenLemmas.{bind_some}
use Rattle.report.proofs.DecodeLemmas.{where_is}
use Rattle.report.proofs.WhatLemmas.{said_read}

-- ---- a line that is due

due_takes : (props total from left : ℕ) (line : List ℕ) (s : Said) → due_of props total from left line ≡ Some s
    → IsDueSaid props total from left s × (line ≡ said_words s)
unfolding due_of
due_takes props total from left line s e =
    let f : Said → Option Said = λ r. where_true (is_due props total from left r) (Some r) in
    let r = bind_some (said_of line) f s e in
    let test = where_is (is_due props total from left r.0) (Some r.0) s r.2 in
    let t = said_read.takes line r.0 r.1 in
    subst (λ (k : Said). IsDueSaid props total from left k × (line ≡ said_words k)) (same_Some r.0 s test.1)
    (record { small = t.0; due = test.0 }, t.1)

due_again : (props total from left : ℕ) (s : Said) → IsDueSaid props total from left s
    → due_of props total from left (said_words s) ≡ Some s
unfolding due_of
due_again props total from left s h = rw (said_read.again s h.small, h.due) refl

pub due_read : (props total from left : ℕ) → IsRead (IsDueSaid props total from left) said_words (due_of props total from left)
due_read props total from left = record {
  one_line = λ s h. said_read.one_line s h.small;
  takes = due_takes props total from left;
  again = due_again props total from left;
}

-- ---- what the test says

pub record Counts (total from left : ℕ) (s : Said) : Type 0 where
  pub rises : from ≤ s.upto
  pub most : s.upto ≤ total
  pub stays : may_append s.what ≡ false → s.upto ≡ from
  pub last : left ≡ 1 → s.upto ≡ total

counted_parts : (m : Bool) (total from left upto : ℕ)
    → (leb from upto && leb upto total && (m || eqb upto from) && (not (eqb left 1) || eqb upto total)) ≡ true
    → (from ≤ upto) × (upto ≤ total) × (m ≡ false → upto ≡ from) × (left ≡ 1 → upto ≡ total)
counted_parts true total from left upto e = grind (arith, nat_tests)
counted_parts false total from left upto e = grind (arith, nat_tests)

counted_whole : (m : Bool) (total from left upto : ℕ) → from ≤ upto → upto ≤ total → (m ≡ false → upto ≡ from)
    → (left ≡ 1 → upto ≡ total)
    → (leb from upto && leb upto total && (m || eqb upto from) && (not (eqb left 1) || eqb upto total)) ≡ true
counted_whole true total from left upto a b c d = grind (arith, nat_tests)
counted_whole false total from left upto a b c d = let same : upto ≡ from = c refl in grind (arith, nat_tests)

both_true : (a b : Bool) → (a && b) ≡ true → (a ≡ true) × (b ≡ true)
both_true true b e = (refl, e)
both_true false b e = absurd cc

pub counts_of : (props total from left : ℕ) (s : Said) → is_due props total from left s ≡ true → Counts total from left s
counts_of props total from left s e =
    let both = both_true (is_within props (property_of s.what)) (is_counted total from left s) e in
    let c = counted_parts (may_append s.what) total from left s.upto both.1 in
    record { rises = c.0; most = c.1; stays = c.2; last = c.3 }

within_of : (props : ℕ) (o : Option ℕ) → is_within props o ≡ true → IfSome o (λ p. p < props)
within_of props None e = tt
within_of props (Some p) e = grind (arith, nat_tests)

is_within_of : (props : ℕ) (o : Option ℕ) → IfSome o (λ p. p < props) → is_within props o ≡ true
is_within_of props None h = refl
is_within_of props (Some p) h = grind (arith, nat_tests)

pub due_within : (props total from left : ℕ) (s : Said) → is_due props total from left s ≡ true
    → IfSome (property_of s.what) (λ p. p < props)
due_within props total from left s e =
    within_of props (property_of s.what) (both_true (is_within props (property_of s.what)) (is_counted total from left s) e).0

pub due_whole : (props total from left : ℕ) (s : Said) → IfSome (property_of s.what) (λ p. p < props) → Counts total from left s
    → is_due props total from left s ≡ true
due_whole props total from left s within c =
    let counted : is_counted total from left s ≡ true = counted_whole (may_append s.what) total from left s.upto c.rises c.most
    c.stays c.last in
    rw (is_within_of props (property_of s.what) within, counted) refl

-- where not all clauses stood before, some line is due: a Publish of the others
pub some_said : (props total : ℕ) (d : ℕ × ℕ) → total < 2 ^ 32 → d.0 ≤ total → HasSome (said_form props total d)
some_said props total d small within =
    let s : Said = record { seat = 0; what = Publishes; upto = total } in
    let counts : Counts total d.0 d.1
    s = record { rises = within; most = omega arith; stays = (λ e. absurd cc); last = (λ e. refl) } in (
      s,
      record {
        small = record { seat = omega arith; property = tt; marks = tt; upto = small };
        due = due_whole props total d.0
            d.1 s tt counts;
      },
    )

-- ---- so many lines

-- So many lines are left, and not more clauses stood before than all; behind the last line all stand.
pub record Met (total n : ℕ) (d : ℕ × ℕ) : Type 0 where
  pub left : d.1 ≡ n
  pub within : d.0 ≤ total
  pub done : n ≡ 0 → d.0 ≡ total

said_sound : (props total : ℕ) (d : ℕ × ℕ) → total < 2 ^ 32 → d.0 ≤ total → IsSound (said_form props total d)
said_sound props total d small within =
    line_sound (IsDueSaid props total d.0 d.1) said_words (read_words (due_read props total d.0 d.1))
    (some_said props total d small within)

pub met_next : (props total n : ℕ) (d : ℕ × ℕ) (s : Said) → Met total (suc n) d → IsDueSaid props total d.0 d.1 s
    → Met total n (said_next d s)
met_next props total n d s m h =
    let c = counts_of props total d.0 d.1 s h.due in
    record { left = omega (arith, m.left); within = c.most; done = λ e. c.last (omega (arith, m.left, e)) }

saids_met : (props total : ℕ) → total < 2 ^ 32 → IsMet (said_form props total) said_next (Met total)
saids_met props total small = record {
  sound = λ n d m. said_sound props total d small m.within;
  goes_on = λ n d s m fits. met_next props total n d s m fits;
}

pub met_first : (total count : ℕ) → (count ≡ 0 → total ≡ 0) → Met total count (0, count)
met_first total count some = record { left = refl; within = omega arith; done = λ e. sym (some e) }

saids_sound : (props total count : ℕ) → total < 2 ^ 32 → (count ≡ 0 → total ≡ 0) → IsSound (saids_form props total count)
saids_sound props total count small some =
    times_sound (said_form props total) said_next (Met total) (saids_met props total small) count (0, count)
    (met_first total count some)

-- ---- clauses from one place to another

between_none : (clauses : List (List ℕ)) (from : ℕ) → between clauses from from ≡ []
between_none clauses from = ap (λ (k : ℕ). take k (drop from clauses)) {y = 0} (omega arith)

pub between_more : (clauses : List (List ℕ)) (from at : ℕ) (clause : List ℕ) → from ≤ at → slice_get clauses at ≡ Some clause
    → (added more : List (List ℕ))
    → added ≡ between clauses from at → more ≡ added ++ clause ∷ [] → more ≡ between clauses from (at + 1)
between_more clauses from at clause le found added more so_far pushed =
    let less : at < length clauses = slice_get_within clauses at clause found in
    let there : get_or (drop from clauses) (at - from) clause ≡ clause
    = get_or-drop from clauses (at - from) clause ∙ ap (λ (k : ℕ). get_or clauses k clause) {y = at} (omega (arith, le))
    ∙ get_or_from_slice_get clauses at clause clause found in
    let one : take (suc (at - from)) (drop from clauses) ≡ take (at - from) (drop from clauses) ++ clause ∷ []
    = take-suc (drop from clauses) (at - from) clause (omega (arith, length-drop from clauses, less, le))
    ∙ ap (λ (v : List ℕ). take (at - from) (drop from clauses) ++ v ∷ []) there in
    let k : suc (at - from) ≡ at + 1 - from = omega (arith, le) in
    pushed ∙ ap (λ (v : List (List ℕ)). v ++ clause ∷ []) so_far ∙ sym one ∙ ap (λ (n : ℕ). take n (drop from clauses)) k

between_length : (clauses : List (List ℕ)) (from upto : ℕ) → from ≤ upto → upto ≤ length clauses
    → length (between clauses from upto) ≡ upto - from
between_length clauses from upto rises most = omega
    (arith, length-take (upto - from) (drop from clauses), length-drop from clauses, rises, most)

pub between_rest : (clauses : List (List ℕ)) (from upto : ℕ) → from ≤ upto
    → between clauses from upto ++ drop upto clauses ≡ drop from clauses
between_rest clauses from upto rises =
    let k : from + (upto - from) ≡ upto = omega (arith, rises) in
    ap (λ (v : List (List ℕ)). between clauses from upto ++ v)
    (sym (drop-drop (upto - from) from clauses ∙ ap (λ (n : ℕ). drop n clauses) k))
    ∙ take-append-drop (upto - from) (drop from clauses)

-- ---- an entry and its line

-- the event and the reply say what they were made of
pub says_what : (w : What) (added : List (List ℕ)) (upto : ℕ) → what_of (event_of w added) (reply_of w upto) ≡ Some w
says_what (Draws p) added upto = refl
says_what DrawsNone added upto = refl
says_what Imports added upto = refl
says_what Publishes added upto = refl
says_what (Settles p m) added upto = refl
says_what (SettlesHad p m had) added upto = refl
says_what (Cancels p) added upto = refl
says_what (CancelsNot p) added upto = refl
says_what (GivesUp p) added upto = refl
says_what (GoesOn p) added upto = refl
says_what (GivesUpHad p had) added upto = refl

-- an event keeps what it appended, where it may append, and where there is nothing
keeps_added : (w : What) (added : List (List ℕ)) → (may_append w ≡ false → added ≡ []) → added_by (event_of w added) ≡ added
keeps_added (Draws p) added none = sym (none refl)
keeps_added DrawsNone added none = sym (none refl)
keeps_added Imports added none = sym (none refl)
keeps_added Publishes added none = refl
keeps_added (Settles p m) added none = refl
keeps_added (SettlesHad p m had) added none = refl
keeps_added (Cancels p) added none = sym (none refl)
keeps_added (CancelsNot p) added none = sym (none refl)
keeps_added (GivesUp p) added none = sym (none refl)
keeps_added (GoesOn p) added none = sym (none refl)
keeps_added (GivesUpHad p had) added none = sym (none refl)

-- the reply tells the number of clauses, or leaves it
pub counts_reply : (w : What) (from upto : ℕ) → (may_append w ≡ false → upto ≡ from) → count_behind from (reply_of w upto) ≡ upto
counts_reply (Draws p) from upto stays = refl
counts_reply DrawsNone from upto stays = refl
counts_reply Imports from upto stays = refl
counts_reply Publishes from upto stays = refl
counts_reply (Settles p m) from upto stays = refl
counts_reply (SettlesHad p m had) from upto stays = sym (stays refl)
counts_reply (Cancels p) from upto stays = sym (stays refl)
counts_reply (CancelsNot p) from upto stays = sym (stays refl)
counts_reply (GivesUp p) from upto stays = sym (stays refl)
counts_reply (GoesOn p) from upto stays = sym (stays refl)
counts_reply (GivesUpHad p had) from upto stays = sym (stays refl)

pub stays_none : (clauses : List (List ℕ)) (from : ℕ) (s : Said) → (may_append s.what ≡ false → s.upto ≡ from)
    → may_append s.what ≡ false → between clauses from s.upto ≡ []
stays_none clauses from s stays e = ap (between clauses from) (stays e) ∙ between_none clauses from

pub added_is : (clauses : List (List ℕ)) (from left : ℕ) (s : Said) → Counts (length clauses) from left s
    → added_by (entry_of clauses from s).event ≡ between clauses from s.upto
added_is clauses from left s c = keeps_added s.what (between clauses from s.upto) (stays_none clauses from s c.stays)

pub count_is : (clauses : List (List ℕ)) (from left : ℕ) (s : Said) → Counts (length clauses) from left s
    → from + length (added_by (entry_of clauses from s).event) ≡ s.upto
count_is clauses from left s c =
    let len : length (added_by (entry_of clauses from s).event) ≡ s.upto - from = ap length (added_is clauses from left s c)
    ∙ between_length clauses from s.upto c.rises c.most in
    omega (arith, len, c.rises)

entry_says : (clauses : List (List ℕ)) (from : ℕ) (s : Said) → entry_words (entry_of clauses from s) s.upto ≡ said_words s
entry_says clauses from s =
    ap (λ (o : Option What). decimal s.seat ++ 32 ∷ entries.said_words o ++ codes " at " ++ decimal s.upto)
    (says_what s.what (between clauses from s.upto) s.upto)

-- ---- all entries and their lines

entries_text : (props : ℕ) (clauses : List (List ℕ)) (n : ℕ) (d : ℕ × ℕ) (ss : List Said) → length clauses < 2 ^ 32
    → Met (length clauses) n d → length ss ≡ n
    → FitFrom (said_form props (length clauses)) said_next d ss
    → entry_lines d.0 (entries_of clauses d.0 ss) ≡ texts_from (said_form props (length clauses)) said_next d ss
entries_text props clauses n d [] small m len fits = refl
entries_text props clauses zero d (s ∷ ss) small m len fits = absurd (omega (arith, len))
entries_text props clauses (suc n) d (s ∷ ss) small m len fits =
    let c = counts_of props (length clauses) d.0 d.1 s fits.0.due in
    let count = count_is clauses d.0 d.1 s c in
    let next = met_next props (length clauses) n d s m fits.0 in
    ap (λ (k : ℕ). line_of (entry_words (entry_of clauses d.0 s) k) ++ entry_lines k (entries_of clauses s.upto ss)) count
    ∙ ap (λ (words : List ℕ). line_of words ++ entry_lines s.upto (entries_of clauses s.upto ss)) (entry_says clauses d.0 s)
    ∙ ap (λ (t : List ℕ). line_of (said_words s) ++ t)
    (entries_text props clauses n (said_next d s) ss small next (omega (arith, len)) fits.1)

entries_there : (props : ℕ) (clauses : List (List ℕ)) (count : ℕ) → length clauses < 2 ^ 32 → (count ≡ 0 → length clauses ≡ 0)
    → IsPart (saids_form props (length clauses) count) (entries_form props clauses count)
entries_there props clauses count small some ss fits = (
  entries_of clauses 0 ss,
  record { lines = ss; fit = fits; are = refl },
  entries_text props clauses count (0, count) ss small (met_first (length clauses) count some) fits.as_many fits.each,
)

entries_back : (props : ℕ) (clauses : List (List ℕ)) (count : ℕ) → length clauses < 2 ^ 32 → (count ≡ 0 → length clauses ≡ 0)
    → IsPart (entries_form props clauses count) (saids_form props (length clauses) count)
entries_back props clauses count small some es h = (
  h.lines,
  h.fit,
  sym (ap (entry_lines 0) h.are
      ∙ entries_text props clauses count (0, count) h.lines small (met_first (length clauses) count some) h.fit.as_many
      h.fit.each),
)

pub entries_sound : (props : ℕ) (clauses : List (List ℕ)) (count : ℕ) → length clauses < 2 ^ 32 → (count ≡ 0 → length clauses ≡ 0)
    → IsSound (entries_form props clauses count)
unfolding entries_back
entries_sound props clauses count small some =
    same_sound (saids_form props (length clauses) count) (entries_form props clauses count) (entries_of clauses 0)
    (entries_there props clauses count small some)
    (entries_back props clauses count small some) (λ es h. sym h.are) (saids_sound props (length clauses) count small some)

-- ---- as a loop goes

-- behind how many clauses the next line stands
behind_lines : ℕ → List Said → ℕ
behind_lines from [] = from
behind_lines from (s ∷ ss) = behind_lines s.upto ss

entries_push : (clauses : List (List ℕ)) (from : ℕ) (ss : List Said) (s : Said)
    → entries_of clauses from (ss ++ s ∷ []) ≡ entries_of clauses from ss ++ entry_of clauses (behind_lines from ss) s ∷ []
unfolding behind_lines
entries_push clauses from [] s = refl
entries_push clauses from (x ∷ ss) s = ap (λ (es : List Entry). entry_of clauses from x ∷ es) (entries_push clauses x.upto ss s)

state_lines : (props total : ℕ) (d : ℕ × ℕ) (ss : List Said)
    → (state_behind (said_form props total) said_next d ss).0 ≡ behind_lines d.0 ss
unfolding behind_lines
state_lines props total d [] = refl
state_lines props total d (s ∷ ss) = state_lines props total (said_next d s) ss

-- so many entries were read, and the next stands behind so many clauses
pub record HasEntries (props : ℕ) (clauses : List (List ℕ)) (count : ℕ) (bytes : List ℕ) (i from : ℕ) (journal : List Entry)
    (rest : List ℕ) : Type 0 where
  pub lines : List Said
  pub taken : Takes (times (said_form props (length clauses)) said_next i (0, count)) bytes lines rest
  pub state : state_behind (said_form props (length clauses)) said_next (0, count) lines ≡ (from, count - i)
  pub met : i ≤ count → Met (length clauses) (count - i) (from, count - i)
  pub are : journal ≡ entries_of clauses 0 lines

pub entries_begin : (props : ℕ) (clauses : List (List ℕ)) (count : ℕ) (bytes : List ℕ) (from : ℕ) (journal : List Entry)
    → (count ≡ 0 → length clauses ≡ 0) → from ≡ 0 → journal ≡ []
    → HasEntries props clauses count bytes 0 from journal bytes
entries_begin props clauses count bytes from journal some start none =
    let left : count ≡ count - 0 = omega arith in
    record {
      lines = [];
      taken = times_none (said_form props (length clauses)) said_next (0, count) bytes;
      state = ap (λ (k : ℕ). (k, count)) (sym start) ∙ ap (λ (k : ℕ). (from, k)) left;
      met = λ le. record { left = refl; within = omega (arith, start); done = λ e. start ∙ sym (some (left ∙ e)) };
      are = none;
    }

pub entries_more : (props : ℕ) (clauses : List (List ℕ)) (count : ℕ) (bytes : List ℕ) (i from : ℕ) (journal : List Entry)
    (rest : List ℕ) (s : Said) (after : List ℕ) (more : List Entry)
    → i < count → HasEntries props clauses count bytes i from journal rest
    → Takes (said_form props (length clauses) (from, count - i)) rest s after
    → more ≡ journal ++ entry_of clauses from s ∷ [] → HasEntries props clauses count bytes (i + 1) s.upto more after
entries_more props clauses count bytes i from journal rest s after more less h t pushed =
    let F = said_form props (length clauses) in
    let start : ℕ × ℕ = (0, count) in
    let here : Takes (F (state_behind F said_next start h.lines)) rest s after = subst (λ (d : ℕ × ℕ). Takes (F d) rest s after)
    (sym h.state) t in
    let left : count - i - 1 ≡ count - (i + 1) = omega arith in
    let one : count - i ≡ suc (count - (i + 1)) = omega (arith, less) in
    let place : behind_lines 0 h.lines ≡ from = sym (state_lines props (length clauses) start h.lines)
    ∙ ap (λ (d : ℕ × ℕ). d.0) h.state in
    let met : Met (length clauses) (suc (count - (i + 1))) (from, count - i) = subst
    (λ (n : ℕ). Met (length clauses) n (from, count - i)) one (h.met (omega (arith, less))) in
    record {
      lines = h.lines ++ s ∷ [];
      taken = times_more F said_next start bytes i h.lines rest s after h.taken here;
      state = state-push F said_next start h.lines s ∙ ap (λ (d : ℕ × ℕ). said_next d s) h.state
          ∙ ap (λ (k : ℕ). (s.upto, k)) left;
      met = λ le. subst (λ (k : ℕ). Met (length clauses) (count - (i + 1)) (s.upto, k)) left
          (met_next props (length clauses) (count - (i + 1)) (from, count - i) s met t.fits);
      are = pushed ∙ ap (λ (es : List Entry). es ++ entry_of clauses from s ∷ []) h.are
          ∙ ap (λ (k : ℕ). entries_of clauses 0 h.lines ++ entry_of clauses k s ∷ []) (sym place)
          ∙ sym (entries_push clauses 0 h.lines s);
    }

pub entries_end : (props : ℕ) (clauses : List (List ℕ)) (count : ℕ) (bytes : List ℕ) (i from : ℕ) (journal : List Entry)
    (rest : List ℕ) (left : ℕ) → length clauses < 2 ^ 32
    → (count ≡ 0 → length clauses ≡ 0) → i < count → HasEntries props clauses count bytes i from journal rest
    → Stops (said_form props (length clauses) (from, count - i)) rest left
    → Stops (entries_form props clauses count) bytes left
entries_end props clauses count bytes i from journal rest left small some less h stop =
    let F = said_form props (length clauses) in
    let here : Stops (F (state_behind F said_next (0, count) h.lines)) rest left = subst (λ (d : ℕ × ℕ). Stops (F d) rest left)
    (sym h.state) stop in
    same_stops (saids_form props (length clauses) count) (entries_form props clauses count)
    (entries_there props clauses count small some) (entries_back props clauses count small some)
    bytes left
    (times_ends F said_next (Met (length clauses)) (saids_met props (length clauses) small) count (0, count) bytes i h.lines rest
    left (met_first (length clauses) count some) less h.taken here)

pub entries_done : (props : ℕ) (clauses : List (List ℕ)) (count : ℕ) (bytes : List ℕ) (i from : ℕ) (journal : List Entry)
    (rest : List ℕ) → length clauses < 2 ^ 32
    → (count ≡ 0 → length clauses ≡ 0) → i ≡ count → HasEntries props clauses count bytes i from journal rest
    → Takes (entries_form props clauses count) bytes journal rest
entries_done props clauses count bytes i from journal rest small some is h =
    let fits : (saids_form props (length clauses) count).Fits h.lines = record {
      as_many = h.taken.fits.as_many
          ∙ is;
      each = h.taken.fits.each;
    } in
    let text = entries_text props clauses count (0, count) h.lines small (met_first (length clauses) count some) fits.as_many
    fits.each in
    record {
      fits = record { lines = h.lines; fit = fits; are = h.are };
      parts = h.taken.parts ∙ ap (λ (v : List ℕ). v ++ rest) (sym (ap (entry_lines 0) h.are ∙ text));
    }
