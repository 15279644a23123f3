-- Lines of a journal are read as they are written, and what is written so is read so.
use Rattle.std.proofs.Common.{◌≡◌, ℕ, ◌<◌, ◌^◌, List, [], ◌∷◌, ◌++◌, Option, Some, None, refl, sym, ap, subst, ◌∙◌, append_assoc, append-nil}
use Rattle.std.specs.Prelude.{codes, decimal, IfSome}
use Rattle.std.proofs.lemmas.Option.{some_pair_parts}
use Rattle.ja_text.specs.Numbers.{BeginsWithoutDigit}
use Rattle.ja_text.specs.Lines.{IsOneLine, space_at, word_at}
use Rattle.ja_text.proofs.ByteLemmas.{space_takes, space_again, word_takes}
use Rattle.store_core.specs.declared.mark.Mark.{Mark}
use Rattle.report.specs.declared.what.Said.{Said}
use Rattle.report.specs.declared.what.What.{What}
use Rattle.report.specs.declared.what.What.TheVariants.{Draws, DrawsNone, Imports, Publishes, Settles, SettlesHad, Cancels, CancelsNot, GivesUp, GoesOn, GivesUpHad}
use Rattle.report.specs.Entries.{HasSmallMarks, IsSmallMark, property_of, property_words, property_word, mark_words, what_head, what_tail, what_words}
use Rattle.report.specs.Tokens.{small_at, small_behind, mark_at}
use Rattle.report.specs.JournalLines.{property_at, had_at, draw_behind, draw_at, settle_behind, settle_at, cancel_behind, cancel_at, give_up_behind, give_up_at, first_event, what_at, said_of, said_words, IsSmallSaid}
use Rattle.report.proofs.FormLemmas.{IsRead}
use Rattle.report.proofs.TokenLemmas.{bind_some, small_takes, small_again, behind_takes, behind_again, mark_takes, mark_again}
use Rattle.report.proofs.DecodeLemmas.{IsOneLine-append, IsOneLine-tested, IsOneLine-small, IsOneLine-mark, ended_is}

-- the words of this stand at the front
record IsWhat (bytes : List ℕ) (w : What) (rest : List ℕ) : Type 0 where
  marks : HasSmallMarks w
  small : IfSome (property_of w) (λ p. p < 2 ^ 32)
  parts : bytes ≡ what_words w ++ rest

-- what stands behind the first word of this
record IsTail (head bytes : List ℕ) (w : What) (rest : List ℕ) : Type 0 where
  begins : what_head w ≡ head
  marks : HasSmallMarks w
  small : IfSome (property_of w) (λ p. p < 2 ^ 32)
  parts : bytes ≡ property_words (property_of w) ++ (what_tail w ++ rest)

regroup : (a b c d : List ℕ) → a ++ b ++ c ++ d ≡ a ++ (b ++ (c ++ d))
regroup a b c d = simp append_assoc

behind_head : (head bytes mid : List ℕ) (w : What) (rest : List ℕ) → bytes ≡ head ++ mid → IsTail head mid w rest
    → IsWhat bytes w rest
behind_head head bytes mid w rest e t = record {
  marks = t.marks;
  small = t.small;
  parts = e ∙ ap (λ (v : List ℕ). v ++ mid) (sym t.begins) ∙ ap (λ (v : List ℕ). what_head w ++ v) t.parts
      ∙ sym (regroup (what_head w) (property_words (property_of w)) (what_tail w) rest);
}

same_tail : (head bytes : List ℕ) (v w : What) (r rest : List ℕ) → ◌≡◌ {A = Option (What × List ℕ)} (Some (v, r)) (Some (w, rest))
    → IsTail head bytes v r → IsTail head bytes w rest
same_tail head bytes v w r rest e t =
    let same = some_pair_parts v w r rest e in
    subst (λ (x : What). IsTail head bytes x rest) same.0 (subst (λ (x : List ℕ). IsTail head bytes v x) same.1 t)

same_what : (bytes : List ℕ) (v w : What) (r rest : List ℕ) → ◌≡◌ {A = Option (What × List ℕ)} (Some (v, r)) (Some (w, rest))
    → IsWhat bytes v r → IsWhat bytes w rest
same_what bytes v w r rest e t =
    let same = some_pair_parts v w r rest e in
    subst (λ (x : What). IsWhat bytes x rest) same.0 (subst (λ (x : List ℕ). IsWhat bytes v x) same.1 t)

property_takes : (bytes : List ℕ) (p : ℕ) (rest : List ℕ) → property_at bytes ≡ Some (p, rest)
    → (p < 2 ^ 32) × (bytes ≡ property_word p ++ rest)
unfolding property_at
property_takes bytes p rest e = let t = behind_takes (codes "b") bytes p rest e in (t.0, t.1)

had_takes : (bytes : List ℕ) (m : Mark) (rest : List ℕ) → had_at bytes ≡ Some (m, rest)
    → IsSmallMark m × (bytes ≡ codes " had " ++ (mark_words m ++ rest))
unfolding had_at
had_takes bytes m rest e =
    let r = bind_some (word_at (codes " had ") bytes) mark_at (m, rest) e in
    let t = mark_takes r.0 m rest r.2 in
    (t.0, word_takes (codes " had ") bytes r.0 r.1 ∙ ap (λ (v : List ℕ). codes " had " ++ v) t.1)

-- ---- draw

draw_takes : (bytes mid : List ℕ) (a : Option (List ℕ)) (b : Option (ℕ × List ℕ)) (w : What) (rest : List ℕ)
    → bytes ≡ codes "draw " ++ mid → word_at (codes "none") mid ≡ a
    → property_at mid ≡ b → draw_behind a b ≡ Some (w, rest) → IsWhat bytes w rest
draw_takes bytes mid (Some r) b w rest e ea eb h =
    same_what bytes DrawsNone w r rest h
    (record {
      marks = tt;
      small = tt;
      parts = e ∙ ap (λ (v : List ℕ). codes "draw " ++ v) (word_takes (codes "none") mid r ea);
    })
draw_takes bytes mid None (Some x) w rest e ea eb h =
    let t = property_takes mid x.0 x.1 eb in
    same_what bytes (Draws x.0) w x.1 rest h
    (behind_head (codes "draw ") bytes mid (Draws x.0) x.1 e (record { begins = refl; marks = tt; small = t.0; parts = t.1 }))
draw_takes bytes mid None None w rest e ea eb h = absurd cc

-- ---- settle

settle_end : (mid : List ℕ) (p : ℕ) (m : Mark × List ℕ) (o : Option (Mark × List ℕ)) (w : What) (rest : List ℕ) → p < 2 ^ 32
    → IsSmallMark m.0
    → mid ≡ property_word p ++ 32 ∷ (mark_words m.0 ++ m.1) → had_at m.1 ≡ o → settle_behind p m o ≡ Some (w, rest)
    → IsTail (codes "settle ") mid w rest
settle_end mid p m None w rest small mark parts eo h =
    same_tail (codes "settle ") mid (Settles p m.0) w m.1 rest h
    (record { begins = refl; marks = mark; small = small; parts = parts })
settle_end mid p m (Some had) w rest small mark parts eo h =
    let t = had_takes m.1 had.0 had.1 eo in
    let tail = append_assoc (32 ∷ mark_words m.0 ++ codes " had ") (mark_words had.0) had.1
    ∙ append_assoc (32 ∷ mark_words m.0) (codes " had ") (mark_words had.0 ++ had.1) in
    same_tail (codes "settle ") mid (SettlesHad p m.0 had.0) w had.1 rest h
    (record {
      begins = refl;
      marks = (mark, t.0);
      small = small;
      parts = parts ∙ ap (λ (v : List ℕ). property_word p ++ 32 ∷ (mark_words m.0 ++ v)) t.1
          ∙ ap (λ (v : List ℕ). property_word p ++ v) (sym tail);
    })

settle_takes : (mid : List ℕ) (w : What) (rest : List ℕ) → settle_at mid ≡ Some (w, rest) → IsTail (codes "settle ") mid w rest
unfolding settle_at
settle_takes mid w rest e =
    let p = bind_some (property_at mid) _ (w, rest) e in
    let r = bind_some (space_at p.0.1) _ (w, rest) p.2 in
    let m = bind_some (mark_at r.0) _ (w, rest) r.2 in
    let tp = property_takes mid p.0.0 p.0.1 p.1 in
    let tm = mark_takes r.0 m.0.0 m.0.1 m.1 in
    let parts : mid ≡ property_word p.0.0 ++ 32 ∷ (mark_words m.0.0 ++ m.0.1)
    = tp.1 ∙ ap (λ (v : List ℕ). property_word p.0.0 ++ v) (space_takes p.0.1 r.0 r.1 ∙ ap (λ (v : List ℕ). 32 ∷ v) tm.1) in
    settle_end mid p.0.0 m.0 (had_at m.0.1) w rest tp.0 tm.0 parts refl m.2

-- ---- cancel and give up

cancel_end : (mid : List ℕ) (p : ℕ) (behind : List ℕ) (a b : Option (List ℕ)) (w : What) (rest : List ℕ) → p < 2 ^ 32
    → mid ≡ property_word p ++ behind
    → word_at (codes " yes") behind ≡ a → word_at (codes " no") behind ≡ b → cancel_behind p a b ≡ Some (w, rest)
    → IsTail (codes "cancel ") mid w rest
cancel_end mid p behind (Some r) b w rest small parts ea eb h =
    same_tail (codes "cancel ") mid (Cancels p) w r rest h
    (record {
      begins = refl;
      marks = tt;
      small = small;
      parts = parts
          ∙ ap (λ (v : List ℕ). property_word p ++ v) (word_takes (codes " yes") behind r ea);
    })
cancel_end mid p behind None (Some r) w rest small parts ea eb h =
    same_tail (codes "cancel ") mid (CancelsNot p) w r rest h
    (record {
      begins = refl;
      marks = tt;
      small = small;
      parts = parts
          ∙ ap (λ (v : List ℕ). property_word p ++ v) (word_takes (codes " no") behind r eb);
    })
cancel_end mid p behind None None w rest small parts ea eb h = absurd cc

cancel_takes : (mid : List ℕ) (w : What) (rest : List ℕ) → cancel_at mid ≡ Some (w, rest) → IsTail (codes "cancel ") mid w rest
unfolding cancel_at
cancel_takes mid w rest e =
    let p = bind_some (property_at mid) _ (w, rest) e in
    let tp = property_takes mid p.0.0 p.0.1 p.1 in
    cancel_end mid p.0.0 p.0.1 (word_at (codes " yes") p.0.1) (word_at (codes " no") p.0.1) w rest tp.0 tp.1 refl refl p.2

give_up_end : (mid : List ℕ) (p : ℕ) (behind : List ℕ) (a b : Option (List ℕ)) (o : Option (Mark × List ℕ)) (w : What)
    (rest : List ℕ) → p < 2 ^ 32
    → mid ≡ property_word p ++ behind → word_at (codes " yes") behind ≡ a → word_at (codes " goon") behind ≡ b → had_at behind ≡ o
    → give_up_behind p a b o ≡ Some (w, rest) → IsTail (codes "giveup ") mid w rest
give_up_end mid p behind (Some r) b o w rest small parts ea eb eo h =
    same_tail (codes "giveup ") mid (GivesUp p) w r rest h
    (record {
      begins = refl;
      marks = tt;
      small = small;
      parts = parts
          ∙ ap (λ (v : List ℕ). property_word p ++ v) (word_takes (codes " yes") behind r ea);
    })
give_up_end mid p behind None (Some r) o w rest small parts ea eb eo h =
    same_tail (codes "giveup ") mid (GoesOn p) w r rest h
    (record {
      begins = refl;
      marks = tt;
      small = small;
      parts = parts
          ∙ ap (λ (v : List ℕ). property_word p ++ v) (word_takes (codes " goon") behind r eb);
    })
give_up_end mid p behind None None (Some had) w rest small parts ea eb eo h =
    let t = had_takes behind had.0 had.1 eo in
    same_tail (codes "giveup ") mid (GivesUpHad p had.0) w had.1 rest h
    (record {
      begins = refl;
      marks = t.0;
      small = small;
      parts = parts ∙ ap (λ (v : List ℕ). property_word p ++ v)
          (t.1 ∙ sym (append_assoc (codes " had ") (mark_words had.0) had.1));
    })
give_up_end mid p behind None None None w rest small parts ea eb eo h = absurd cc

give_up_takes : (mid : List ℕ) (w : What) (rest : List ℕ) → give_up_at mid ≡ Some (w, rest) → IsTail (codes "giveup ") mid w rest
unfolding give_up_at
give_up_takes mid w rest e =
    let p = bind_some (property_at mid) _ (w, rest) e in
    let tp = property_takes mid p.0.0 p.0.1 p.1 in
    give_up_end mid p.0.0 p.0.1 (word_at (codes " yes") p.0.1) (word_at (codes " goon") p.0.1) (had_at p.0.1) w rest tp.0 tp.1
    refl refl refl p.2

-- ---- all of them

event_takes : (bytes : List ℕ) (a b c d e f : Option (List ℕ)) (w : What) (rest : List ℕ) → word_at (codes "draw ") bytes ≡ a
    → word_at (codes "import") bytes ≡ b
    → word_at (codes "publish") bytes ≡ c → word_at (codes "settle ") bytes ≡ d → word_at (codes "cancel ") bytes ≡ e
    → word_at (codes "giveup ") bytes ≡ f
    → first_event a b c d e f ≡ Some (w, rest) → IsWhat bytes w rest
unfolding draw_at
event_takes bytes (Some r) b c d e f w rest ea eb ec ed ee ef h =
    draw_takes bytes r (word_at (codes "none") r) (property_at r) w rest (word_takes (codes "draw ") bytes r ea) refl refl h
event_takes bytes None (Some r) c d e f w rest ea eb ec ed ee ef h =
    same_what bytes Imports w r rest h (record { marks = tt; small = tt; parts = word_takes (codes "import") bytes r eb })
event_takes bytes None None (Some r) d e f w rest ea eb ec ed ee ef h =
    same_what bytes Publishes w r rest h (record { marks = tt; small = tt; parts = word_takes (codes "publish") bytes r ec })
event_takes bytes None None None (Some r) e f w rest ea eb ec ed ee ef h =
    behind_head (codes "settle ") bytes r w rest (word_takes (codes "settle ") bytes r ed) (settle_takes r w rest h)
event_takes bytes None None None None (Some r) f w rest ea eb ec ed ee ef h =
    behind_head (codes "cancel ") bytes r w rest (word_takes (codes "cancel ") bytes r ee) (cancel_takes r w rest h)
event_takes bytes None None None None None (Some r) w rest ea eb ec ed ee ef h =
    behind_head (codes "giveup ") bytes r w rest (word_takes (codes "giveup ") bytes r ef) (give_up_takes r w rest h)
event_takes bytes None None None None None None w rest ea eb ec ed ee ef h = absurd cc

what_takes : (bytes : List ℕ) (w : What) (rest : List ℕ) → what_at bytes ≡ Some (w, rest) → IsWhat bytes w rest
unfolding what_at
what_takes bytes w rest h = event_takes bytes _ _ _ _ _ _ w rest refl refl refl refl refl refl h

-- ---- and again

-- what stands behind the words of an entry
abbrev at : List ℕ → List ℕ
at t = codes " at " ++ t

no_had : (t : List ℕ) → had_at (at t) ≡ None
unfolding had_at word_at
no_had t = refl

property_again : (p : ℕ) (rest : List ℕ) → p < 2 ^ 32 → BeginsWithoutDigit rest
    → property_at (property_word p ++ rest) ≡ Some (p, rest)
unfolding property_at
property_again p rest small ends = behind_again (codes "b") p rest small ends

had_again : (m : Mark) (rest : List ℕ) → IsSmallMark m → BeginsWithoutDigit rest
    → had_at (codes " had " ++ (mark_words m ++ rest)) ≡ Some (m, rest)
unfolding had_at word_at
had_again m rest small ends = mark_again m rest small ends

settle_again : (p : ℕ) (m : Mark) (t : List ℕ) → p < 2 ^ 32 → IsSmallMark m
    → settle_at (property_word p ++ (32 ∷ mark_words m ++ at t)) ≡ Some (Settles p m, at t)
unfolding settle_at
settle_again p m t small mark =
    rw (
      property_again p (32 ∷ mark_words m ++ at t) small refl,
      space_again (mark_words m ++ at t),
      mark_again m (at t) mark
          refl,
      no_had t,
    ) refl

settle_had_again : (p : ℕ) (m had : Mark) (t : List ℕ) → p < 2 ^ 32 → IsSmallMark m → IsSmallMark had
    → settle_at (property_word p ++ (32 ∷ mark_words m ++ (codes " had " ++ (mark_words had ++ at t)))) ≡ Some
    (SettlesHad p m had, at t)
unfolding settle_at
settle_had_again p m had t small mark stays =
    let rest = codes " had " ++ (mark_words had ++ at t) in
    rw (
      property_again p (32 ∷ mark_words m ++ rest) small refl,
      space_again (mark_words m ++ rest),
      mark_again m rest mark refl,
      had_again had (at t) stays refl,
    ) refl

cancel_again : (p : ℕ) (t : List ℕ) → p < 2 ^ 32 → cancel_at (property_word p ++ (codes " yes" ++ at t)) ≡ Some (Cancels p, at t)
unfolding cancel_at word_at
cancel_again p t small = rw (property_again p (codes " yes" ++ at t) small refl) refl

cancel_not_again : (p : ℕ) (t : List ℕ) → p < 2 ^ 32
    → cancel_at (property_word p ++ (codes " no" ++ at t)) ≡ Some (CancelsNot p, at t)
unfolding cancel_at word_at
cancel_not_again p t small = rw (property_again p (codes " no" ++ at t) small refl) refl

give_up_again : (p : ℕ) (t : List ℕ) → p < 2 ^ 32
    → give_up_at (property_word p ++ (codes " yes" ++ at t)) ≡ Some (GivesUp p, at t)
unfolding give_up_at word_at
give_up_again p t small = rw (property_again p (codes " yes" ++ at t) small refl) refl

goes_on_again : (p : ℕ) (t : List ℕ) → p < 2 ^ 32
    → give_up_at (property_word p ++ (codes " goon" ++ at t)) ≡ Some (GoesOn p, at t)
unfolding give_up_at word_at
goes_on_again p t small = rw (property_again p (codes " goon" ++ at t) small refl) refl

give_up_had_again : (p : ℕ) (had : Mark) (t : List ℕ) → p < 2 ^ 32 → IsSmallMark had
    → give_up_at (property_word p ++ (codes " had " ++ (mark_words had ++ at t))) ≡ Some (GivesUpHad p had, at t)
unfolding give_up_at word_at
give_up_had_again p had t small stays =
    rw (property_again p (codes " had " ++ (mark_words had ++ at t)) small refl, had_again had (at t) stays refl) refl

parts_again : (w : What) (t : List ℕ) → HasSmallMarks w → IfSome (property_of w) (λ p. p < 2 ^ 32)
    → what_at (what_head w ++ (property_words (property_of w) ++ (what_tail w ++ at t))) ≡ Some (w, at t)
unfolding what_at word_at draw_at
parts_again (Draws p) t marks small = rw (property_again p (at t) small refl) refl
parts_again DrawsNone t marks small = refl
parts_again Imports t marks small = refl
parts_again Publishes t marks small = refl
parts_again (Settles p m) t marks small = settle_again p m t small marks
parts_again (SettlesHad p m had) t marks small =
    ap (λ (v : List ℕ). settle_at (property_word p ++ v))
    (append_assoc (32 ∷ mark_words m ++ codes " had ") (mark_words had) (at t)
    ∙ append_assoc (32 ∷ mark_words m) (codes " had ") (mark_words had ++ at t))
    ∙ settle_had_again p m had t small marks.0 marks.1
parts_again (Cancels p) t marks small = cancel_again p t small
parts_again (CancelsNot p) t marks small = cancel_not_again p t small
parts_again (GivesUp p) t marks small = give_up_again p t small
parts_again (GoesOn p) t marks small = goes_on_again p t small
parts_again (GivesUpHad p had) t marks small =
    ap (λ (v : List ℕ). give_up_at (property_word p ++ v)) (append_assoc (codes " had ") (mark_words had) (at t))
    ∙ give_up_had_again p had t small marks

what_again : (w : What) (t : List ℕ) → HasSmallMarks w → IfSome (property_of w) (λ p. p < 2 ^ 32)
    → what_at (what_words w ++ at t) ≡ Some (w, at t)
what_again w t marks small = ap what_at (regroup (what_head w) (property_words (property_of w)) (what_tail w) (at t))
    ∙ parts_again w t marks small

-- ---- a whole line

said_parts : (a b c d : List ℕ) → a ++ 32 ∷ b ++ c ++ d ≡ a ++ (32 ∷ (b ++ (c ++ d)))
said_parts a b c d = append_assoc (a ++ 32 ∷ b) c d ∙ append_assoc a (32 ∷ b) (c ++ d)

said_takes : (line : List ℕ) (s : Said) → said_of line ≡ Some s → IsSmallSaid s × (line ≡ said_words s)
unfolding said_of
said_takes line s e =
    let seat = bind_some (small_at line) _ s e in
    let r = bind_some (space_at seat.0.1) _ s seat.2 in
    let what = bind_some (what_at r.0) _ s r.2 in
    let count = bind_some (small_behind (codes " at ") what.0.1) _ s what.2 in
    let read : Said = record { seat = seat.0.0; what = what.0.0; upto = count.0.0 } in
    let whole = ended_is (read, count.0.1) s count.2 in
    let ts = small_takes line seat.0.0 seat.0.1 seat.1 in
    let tw = what_takes r.0 what.0.0 what.0.1 what.1 in
    let tc = behind_takes (codes " at ") what.0.1 count.0.0 count.0.1 count.1 in
    let end : what.0.1 ≡ codes " at " ++ decimal count.0.0
    = tc.1 ∙ ap (λ (v : List ℕ). codes " at " ++ decimal count.0.0 ++ v) whole.1
    ∙ append-nil (codes " at " ++ decimal count.0.0) in
    let parts : line ≡ said_words read
    = ts.parts ∙ ap (λ (v : List ℕ). decimal seat.0.0 ++ v) (space_takes seat.0.1 r.0 r.1
    ∙ ap (λ (v : List ℕ). 32 ∷ v) (tw.parts ∙ ap (λ (v : List ℕ). what_words what.0.0 ++ v) end))
    ∙ sym (said_parts (decimal seat.0.0) (what_words what.0.0) (codes " at ") (decimal count.0.0)) in
    subst (λ (k : Said). IsSmallSaid k × (line ≡ said_words k)) whole.0
    (record { seat = ts.small; property = tw.small; marks = tw.marks; upto = tc.0 }, parts)

said_again : (s : Said) → IsSmallSaid s → said_of (said_words s) ≡ Some s
unfolding said_of
said_again s small =
    let count : small_behind (codes " at ") (at (decimal s.upto)) ≡ Some (s.upto, [])
    = ap (small_behind (codes " at ")) (sym (append-nil (at (decimal s.upto))))
    ∙ behind_again (codes " at ") s.upto [] small.upto tt in
    let tail = 32 ∷ (what_words s.what ++ at (decimal s.upto)) in
    ap said_of (said_parts (decimal s.seat) (what_words s.what) (codes " at ") (decimal s.upto))
    ∙ rw (
      small_again s.seat tail small.seat refl,
      space_again (what_words s.what ++ at (decimal s.upto)),
      what_again s.what
          (decimal s.upto) small.marks small.property,
      count,
    ) refl

IsOneLine-head : (w : What) → IsOneLine (what_head w)
IsOneLine-head (Draws p) = IsOneLine-tested (codes "draw ") refl
IsOneLine-head DrawsNone = IsOneLine-tested (codes "draw none") refl
IsOneLine-head Imports = IsOneLine-tested (codes "import") refl
IsOneLine-head Publishes = IsOneLine-tested (codes "publish") refl
IsOneLine-head (Settles p m) = IsOneLine-tested (codes "settle ") refl
IsOneLine-head (SettlesHad p m had) = IsOneLine-tested (codes "settle ") refl
IsOneLine-head (Cancels p) = IsOneLine-tested (codes "cancel ") refl
IsOneLine-head (CancelsNot p) = IsOneLine-tested (codes "cancel ") refl
IsOneLine-head (GivesUp p) = IsOneLine-tested (codes "giveup ") refl
IsOneLine-head (GoesOn p) = IsOneLine-tested (codes "giveup ") refl
IsOneLine-head (GivesUpHad p had) = IsOneLine-tested (codes "giveup ") refl

IsOneLine-property : (o : Option ℕ) → IfSome o (λ p. p < 2 ^ 32) → IsOneLine (property_words o)
IsOneLine-property None small = tt
IsOneLine-property (Some p) small = ((λ e. absurd cc), IsOneLine-small p small)

IsOneLine-had : (had : Mark) → IsSmallMark had → IsOneLine (codes " had " ++ mark_words had)
IsOneLine-had had small = IsOneLine-append (codes " had ") (mark_words had) (IsOneLine-tested (codes " had ") refl)
    (IsOneLine-mark had small)

IsOneLine-offered : (m : Mark) → IsSmallMark m → IsOneLine (32 ∷ mark_words m)
IsOneLine-offered m small = ((λ e. absurd cc), IsOneLine-mark m small)

IsOneLine-tail : (w : What) → HasSmallMarks w → IsOneLine (what_tail w)
IsOneLine-tail (Draws p) marks = tt
IsOneLine-tail DrawsNone marks = tt
IsOneLine-tail Imports marks = tt
IsOneLine-tail Publishes marks = tt
IsOneLine-tail (Settles p m) marks = IsOneLine-offered m marks
IsOneLine-tail (SettlesHad p m had) marks =
    subst IsOneLine (sym (append_assoc (32 ∷ mark_words m) (codes " had ") (mark_words had)))
    (IsOneLine-append (32 ∷ mark_words m) (codes " had " ++ mark_words had) (IsOneLine-offered m marks.0)
    (IsOneLine-had had marks.1))
IsOneLine-tail (Cancels p) marks = IsOneLine-tested (codes " yes") refl
IsOneLine-tail (CancelsNot p) marks = IsOneLine-tested (codes " no") refl
IsOneLine-tail (GivesUp p) marks = IsOneLine-tested (codes " yes") refl
IsOneLine-tail (GoesOn p) marks = IsOneLine-tested (codes " goon") refl
IsOneLine-tail (GivesUpHad p had) marks = IsOneLine-had had marks

IsOneLine-said : (s : Said) → IsSmallSaid s → IsOneLine (said_words s)
IsOneLine-said s small =
    let what = IsOneLine-append (what_head s.what ++ property_words (property_of s.what)) (what_tail s.what)
    (IsOneLine-append (what_head s.what) (property_words (property_of s.what)) (IsOneLine-head s.what)
    (IsOneLine-property (property_of s.what) small.property))
    (IsOneLine-tail s.what small.marks) in
    let front = IsOneLine-append (decimal s.seat) (32 ∷ what_words s.what) (IsOneLine-small s.seat small.seat)
    ((λ e. absurd cc), what) in
    IsOneLine-append (decimal s.seat ++ 32 ∷ what_words s.what ++ codes " at ") (decimal s.upto)
    (IsOneLine-append (decimal s.seat ++ 32 ∷ what_words s.what) (codes " at ") front (IsOneLine-tested (codes " at ") refl))
    (IsOneLine-small s.upto small.upto)

pub said_read : IsRead IsSmallSaid said_words said_of
said_read = record { one_line = IsOneLine-said; takes = said_takes; again = said_again }
