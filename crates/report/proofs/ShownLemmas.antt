-- The journal of a report and its lines: the entries of lines are answered, and entries that are answered have lines.
use Rattle.std.proofs.Common.{◌≡◌, ℕ, zero, suc, ◌+◌, ◌-◌, ◌<◌, ◌≤◌, ◌^◌, false, List, [], ◌∷◌, ◌++◌, length, length-append, length-drop, take, drop, take_at, drop_at, drop-drop, Option, Some, None, refl, sym, ap, subst, ◌∙◌, arith}
use Rattle.std.specs.Prelude.{IfSome}
use Rattle.std.specs.List.{AllByRecursion, flat_map}
use Rattle.std.proofs.lemmas.List.{nil_from_length}
use Rattle.std.proofs.lemmas.List.Concat.{flat_map-cons}
use Rattle.std.proofs.lemmas.Option.{same_Some}
use Rattle.store_core.specs.declared.journal.Event.{Event}
use Rattle.store_core.specs.declared.journal.Event.TheVariants.{Draw, Import, Publish, Settle, Cancel, GiveUp}
use Rattle.store_core.specs.declared.journal.Reply.{Reply}
use Rattle.store_core.specs.declared.journal.Reply.TheVariants as reply
use Rattle.store_core.specs.declared.journal.Entry.{Entry}
use Rattle.store_core.specs.declared.mark.Mark.{Mark}
use Rattle.report.specs.declared.what.Said.{Said}
use Rattle.report.specs.declared.what.What.{What}
use Rattle.report.specs.declared.what.What.TheVariants.{Draws, DrawsNone, Imports, Publishes, Settles, SettlesHad, Cancels, CancelsNot, GivesUp, GoesOn, GivesUpHad}
use Rattle.report.specs.Entries.{HasSmallMarks, may_append, property_of, draw_what, import_what, publish_what, settle_what, cancel_what, give_up_what, what_of, added_by, count_behind, IsAnswered, AreAnswered, IsSmallEntry}
use Rattle.report.specs.Forms.{FitFrom}
use Rattle.report.specs.Sections.{IsEntryCount}
use Rattle.report.specs.JournalLines.{IsSmallSaid, IsDueSaid, said_form, said_next, event_of, reply_of, between, entry_of, entries_of, AreEntries}
use Rattle.report.proofs.JournalLemmas.{Counts, counts_of, due_within, due_whole, Met, met_next, met_first, between_rest, says_what, counts_reply, stays_none, added_is, count_is}

-- ---- the entries of lines

abbrev pub added_of : Entry → List (List ℕ)
added_of e = added_by e.event

entry_answered : (props : ℕ) (clauses : List (List ℕ)) (from left : ℕ) (s : Said) → IsDueSaid props (length clauses) from left s
    → IsAnswered props from (entry_of clauses from s)
entry_answered props clauses from left s h =
    let c = counts_of props (length clauses) from left s h.due in
    record {
      what = s.what;
      says = says_what s.what (between clauses from s.upto) s.upto;
      within = due_within props (length clauses) from left s h.due;
      count = counts_reply s.what from s.upto c.stays ∙ sym (count_is clauses from left s c);
      appends = λ e. added_is clauses from left s c ∙ stays_none clauses from s c.stays e;
    }

entry_small : (clauses : List (List ℕ)) (from : ℕ) (s : Said) → IsSmallSaid s → IsSmallEntry (entry_of clauses from s)
entry_small clauses from s small = record {
  seat = small.seat;
  marks = subst (λ (o : Option What). IfSome o HasSmallMarks) (sym (says_what s.what (between clauses from s.upto) s.upto))
      small.marks;
}

drop_all : (clauses : List (List ℕ)) (n : ℕ) → n ≡ length clauses → drop n clauses ≡ []
drop_all clauses n e = nil_from_length (drop n clauses) (omega (arith, e, length-drop n clauses))

-- what is known of the entries of lines
record Tells (props : ℕ) (clauses : List (List ℕ)) (from : ℕ) (es : List Entry) : Type 0 where
  answered : AreAnswered props from es
  small : AllByRecursion IsSmallEntry es
  appended : flat_map added_of es ≡ drop from clauses

lines_tell : (props : ℕ) (clauses : List (List ℕ)) (n : ℕ) (d : ℕ × ℕ) (ss : List Said) → Met (length clauses) n d → length ss ≡ n
    → FitFrom (said_form props (length clauses)) said_next d ss → Tells props clauses d.0 (entries_of clauses d.0 ss)
lines_tell props clauses n d [] m len
    fits = record { answered = tt; small = tt; appended = sym (drop_all clauses d.0 (m.done (sym len))) }
lines_tell props clauses zero d (s ∷ ss) m len fits = absurd (omega (arith, len))
lines_tell props clauses (suc n) d (s ∷ ss) m len fits =
    let from = d.0 in
    let e = entry_of clauses from s in
    let es = entries_of clauses s.upto ss in
    let c = counts_of props (length clauses) from d.1 s fits.0.due in
    let rest = lines_tell props clauses n (said_next d s) ss (met_next props (length clauses) n d s m fits.0) (omega (arith, len))
    fits.1 in
    record {
      answered = (
        entry_answered props clauses from d.1 s fits.0,
        subst (λ (k : ℕ). AreAnswered props k es)
            (sym (count_is clauses from d.1 s c)) rest.answered,
      );
      small = (entry_small clauses from s fits.0.small, rest.small);
      appended = flat_map-cons added_of e es
          ∙ ap (λ (v : List (List ℕ)). v ++ flat_map added_of es) (added_is clauses from d.1 s c)
          ∙ ap (λ (v : List (List ℕ)). between clauses from s.upto ++ v) rest.appended ∙ between_rest clauses from s.upto c.rises;
    }

pub entries_tell : (props : ℕ) (clauses : List (List ℕ)) (es : List Entry) → IsEntryCount (length clauses) (length es)
    → AreEntries props clauses (length es) es
    → AreAnswered props 0 es × AllByRecursion IsSmallEntry es × (flat_map added_of es ≡ clauses)
entries_tell props clauses es count h =
    let t = lines_tell props clauses (length es) (0, length es) h.lines (met_first (length clauses) (length es) count.some)
    h.fit.as_many h.fit.each in
    subst (λ (v : List Entry). AreAnswered props 0 v × AllByRecursion IsSmallEntry v × (flat_map added_of v ≡ clauses))
    (sym h.are) (t.answered, t.small, t.appended)

-- ---- the line of an entry

-- the event and the reply are those of what they say
record IsOf (w : What) (ev : Event) (r : Reply) (upto : ℕ) : Type 0 where
  event : ev ≡ event_of w (added_by ev)
  reply_is : r ≡ reply_of w upto

of_same : (v w : What) (ev : Event) (r : Reply) (upto : ℕ) → ◌≡◌ {A = Option What} (Some v) (Some w) → IsOf v ev r upto
    → IsOf w ev r upto
of_same v w ev r upto e h = subst (λ (x : What). IsOf x ev r upto) (same_Some v w e) h

draw_of : (r : Reply) (w : What) (n upto : ℕ) → draw_what r ≡ Some w → count_behind n r ≡ upto → IsOf w Draw r upto
draw_of (reply.Job p u) w n upto e c = of_same (Draws p) w Draw (reply.Job p u) upto e
    (record { event = refl; reply_is = ap (reply.Job p) c })
draw_of (reply.NoJob u) w n upto e c = of_same DrawsNone w Draw (reply.NoJob u) upto e
    (record { event = refl; reply_is = ap (λ (k : ℕ). reply.NoJob k) c })
draw_of r w n upto e c = absurd cc

import_of : (r : Reply) (w : What) (n upto : ℕ) → import_what r ≡ Some w → count_behind n r ≡ upto → IsOf w Import r upto
import_of (reply.Clauses u) w n upto e c = of_same Imports w Import (reply.Clauses u) upto e
    (record { event = refl; reply_is = ap (λ (k : ℕ). reply.Clauses k) c })
import_of r w n upto e c = absurd cc

publish_of : (added : List (List ℕ)) (r : Reply) (w : What) (n upto : ℕ) → publish_what r ≡ Some w → count_behind n r ≡ upto
    → IsOf w (Publish added) r upto
publish_of added (reply.Added u) w n upto e c =
    of_same Publishes w (Publish added) (reply.Added u) upto e
    (record { event = refl; reply_is = ap (λ (k : ℕ). reply.Added k) c })
publish_of added r w n upto e c = absurd cc

settle_of : (p : ℕ) (m : Mark) (added : List (List ℕ)) (r : Reply) (w : What) (n upto : ℕ) → settle_what p m r ≡ Some w
    → count_behind n r ≡ upto → IsOf w (Settle p m added) r upto
settle_of p m added (reply.Settled u) w n upto e c =
    of_same (Settles p m) w (Settle p m added) (reply.Settled u) upto e
    (record { event = refl; reply_is = ap (λ (k : ℕ). reply.Settled k) c })
settle_of p m added (reply.Had had) w n upto e c = of_same (SettlesHad p m had) w (Settle p m added) (reply.Had had) upto e
    (record { event = refl; reply_is = refl })
settle_of p m added r w n upto e c = absurd cc

cancel_of : (p : ℕ) (r : Reply) (w : What) (n upto : ℕ) → cancel_what p r ≡ Some w → count_behind n r ≡ upto
    → IsOf w (Cancel p) r upto
cancel_of p reply.Cancelled w n upto e c = of_same (Cancels p) w (Cancel p) reply.Cancelled upto e
    (record { event = refl; reply_is = refl })
cancel_of p reply.NotNow w n upto e c = of_same (CancelsNot p) w (Cancel p) reply.NotNow upto e
    (record { event = refl; reply_is = refl })
cancel_of p r w n upto e c = absurd cc

give_up_of : (p : ℕ) (r : Reply) (w : What) (n upto : ℕ) → give_up_what p r ≡ Some w → count_behind n r ≡ upto
    → IsOf w (GiveUp p) r upto
give_up_of p reply.GaveUp w n upto e c = of_same (GivesUp p) w (GiveUp p) reply.GaveUp upto e
    (record { event = refl; reply_is = refl })
give_up_of p reply.GoOn w n upto e c = of_same (GoesOn p) w (GiveUp p) reply.GoOn upto e
    (record { event = refl; reply_is = refl })
give_up_of p (reply.Had had) w n upto e c = of_same (GivesUpHad p had) w (GiveUp p) (reply.Had had) upto e
    (record { event = refl; reply_is = refl })
give_up_of p r w n upto e c = absurd cc

is_of : (ev : Event) (r : Reply) (w : What) (n upto : ℕ) → what_of ev r ≡ Some w → count_behind n r ≡ upto → IsOf w ev r upto
is_of Draw r w n upto e c = draw_of r w n upto e c
is_of Import r w n upto e c = import_of r w n upto e c
is_of (Publish added) r w n upto e c = publish_of added r w n upto e c
is_of (Settle p m added) r w n upto e c = settle_of p m added r w n upto e c
is_of (Cancel p) r w n upto e c = cancel_of p r w n upto e c
is_of (GiveUp p) r w n upto e c = give_up_of p r w n upto e c

-- the line of an entry behind so many clauses
abbrev line_of_entry : ℕ → Entry → What → Said
line_of_entry from e w = record { seat = e.seat; what = w; upto = from + length (added_of e) }

entry_is : (clauses : List (List ℕ)) (from : ℕ) (e : Entry) (w : What) → what_of e.event e.reply ≡ Some w
    → count_behind from e.reply ≡ from + length (added_of e)
    → between clauses from (from + length (added_of e)) ≡ added_of e → e ≡ entry_of clauses from (line_of_entry from e w)
entry_is clauses from e w says count added =
    let of = is_of e.event e.reply w from (from + length (added_of e)) says count in
    let event : e.event ≡ event_of w (between clauses from (from + length (added_of e))) = of.event
    ∙ ap (event_of w) (sym added) in
    ap (λ (ev : Event). record { seat = e.seat; event = ev; reply = e.reply }) event
    ∙ ap (λ (r : Reply). record {
      seat = e.seat;
      event = event_of w (between clauses from (from + length (added_of e)));
      reply = r;
    }) of.reply_is

-- lines of entries
record HasLines (props : ℕ) (clauses : List (List ℕ)) (from n : ℕ) (es : List Entry) : Type 0 where
  lines : List Said
  as_many : length lines ≡ n
  each : FitFrom (said_form props (length clauses)) said_next (from, n) lines
  are : es ≡ entries_of clauses from lines

below_all : (props : ℕ) (o : Option ℕ) → props < 2 ^ 32 → IfSome o (λ p. p < props) → IfSome o (λ p. p < 2 ^ 32)
below_all props None small h = tt
below_all props (Some p) small h = omega (arith, small, h)

marks_of_what : (o : Option What) (w : What) → o ≡ Some w → IfSome o HasSmallMarks → HasSmallMarks w
marks_of_what o w e h = subst (λ (x : Option What). IfSome x HasSmallMarks) e h

lines_of : (props : ℕ) (clauses : List (List ℕ)) (from : ℕ) (es : List Entry) → props < 2 ^ 32 → length clauses < 2 ^ 32
    → from ≤ length clauses → AreAnswered props from es
    → AllByRecursion IsSmallEntry es → flat_map added_of es ≡ drop from clauses → HasLines props clauses from (length es) es
lines_of props clauses from [] sp sc le answered small appended = record { lines = []; as_many = refl; each = tt; are = refl }
lines_of props clauses from (e ∷ es) sp sc le answered small appended =
    let a = answered.0 in
    let added = added_of e in
    let rest = flat_map added_of es in
    let upto = from + length added in
    let s = line_of_entry from e a.what in
    let parts : drop from clauses ≡ added ++ rest = sym appended ∙ flat_map-cons added_of e es in
    let len : length clauses - from ≡ length added + length rest = sym (length-drop from clauses) ∙ ap length parts
    ∙ length-append added rest in
    let most : upto ≤ length clauses = omega (arith, len, le) in
    let front : between clauses from upto ≡ added
    = ap (λ (k : ℕ). take k (drop from clauses)) {y = length added} (omega arith) ∙ ap (take (length added)) parts
    ∙ take_at added rest (length added) refl in
    let behind : rest ≡ drop upto clauses
    = sym (drop_at added rest (length added) refl) ∙ ap (drop (length added)) (sym parts)
    ∙ drop-drop (length added) from clauses in
    let stays : may_append a.what ≡ false → upto ≡ from = λ no. let none : length added ≡ 0 = ap length (a.appends no) in omega
    (arith, none) in
    let last : length (e ∷ es) ≡ 1 → upto ≡ length clauses
    = λ one. let none : es ≡ [] = nil_from_length es (omega (arith, one)) in
    let empty : length rest ≡ 0 = ap (λ (v : List Entry). length (flat_map added_of v)) none in
    omega (arith, len, empty, le) in
    let counts : Counts (length clauses) from (length (e ∷ es))
    s = record { rises = omega arith; most = most; stays = stays; last = last } in
    let others = lines_of props clauses upto es sp sc most answered.1 small.1 behind in
    let due : IsDueSaid props (length clauses) from (length (e ∷ es)) s = record {
      small = record {
        seat = small.0.seat;
        property = below_all props (property_of a.what) sp a.within;
        marks = marks_of_what (what_of e.event e.reply) a.what a.says small.0.marks;
        upto = omega (arith, most, sc);
      };
      due = due_whole props (length clauses) from (length (e ∷ es)) s a.within counts;
    } in
    let left : length es ≡ length (e ∷ es) - 1 = omega arith in
    record {
      lines = s ∷ others.lines;
      as_many = ap suc others.as_many;
      each = (
        due,
        subst (λ (k : ℕ). FitFrom (said_form props (length clauses)) said_next (upto, k) others.lines) left
            others.each,
      );
      are = ap (λ (x : Entry). x ∷ es) (entry_is clauses from e a.what a.says a.count front)
          ∙ ap (λ (v : List Entry). entry_of clauses from s ∷ v) others.are;
    }

pub entries_are : (props : ℕ) (clauses : List (List ℕ)) (es : List Entry) → props < 2 ^ 32 → length clauses < 2 ^ 32
    → AreAnswered props 0 es → AllByRecursion IsSmallEntry es
    → flat_map added_of es ≡ clauses → AreEntries props clauses (length es) es
entries_are props clauses es sp sc answered small appended =
    let h = lines_of props clauses 0 es sp sc (omega arith) answered small appended in
    record { lines = h.lines; fit = record { as_many = h.as_many; each = h.each }; are = h.are }

-- where there are clauses, there is an entry
pub entries_some : (clauses : List (List ℕ)) (es : List Entry) → flat_map added_of es ≡ clauses → length es ≡ 0
    → length clauses ≡ 0
entries_some clauses es appended none =
    let empty : es ≡ [] = nil_from_length es none in
    ap length (sym appended) ∙ ap (λ (v : List Entry). length (flat_map added_of v)) empty
