-- Forms that are made of others: what is taken, and where reading stops.
use Rattle.std.proofs.Common.{◌≡◌, ℕ, List, [], ◌∷◌, ◌++◌, length, Option, Some, None, refl, sym, ap, subst, ◌∙◌, append_assoc, append-nil, inl, inr}
use Rattle.std.proofs.lemmas.Option.{same_Some, some_pair_parts}
use Rattle.ja_text.specs.Lines.{IsOneLine, line_at}
use Rattle.ja_text.proofs.LineLemmas.{line_takes, line_again, line_one}
use Rattle.report.specs.Reports.{AreLines}
use Rattle.ja_base.specs.declared.memory.OrMemory.{OrMemory}
use Rattle.ja_base.specs.declared.memory.OrMemory.TheVariants.{Refused, Memory}
use Rattle.report.specs.declared.line.BadLine.{BadLine}
use Rattle.report.specs.Forms.{Form, Takes, TakesNone, Stops, Fails, line_form, then}

-- no bytes begin with the texts of two values
abbrev pub IsOne : {X : Type 0} → Form X → Type 0
IsOne {X} F = (x : X) (a : List ℕ) (y : X) (b : List ℕ) → F.Fits x → F.Fits y → F.text x ++ a ≡ F.text y ++ b → (x ≡ y) × (a ≡ b)

-- some value has a text
abbrev pub HasSome : {X : Type 0} → Form X → Type 0
HasSome {X} F = (x : X) × F.Fits x

-- a form whose texts are whole lines, one of which stands at the front at most, and of which there are some
pub record IsSound {X : Type 0} (F : Form X) : Type 0 where
  pub one : IsOne F
  pub some : HasSome F
  pub lines : (x : X) → F.Fits x → AreLines (F.text x)

pub AreLines-append : (a b : List ℕ) → AreLines a → AreLines b → AreLines (a ++ b)
AreLines-append a b p (inl e) = subst (λ (t : List ℕ). AreLines (a ++ t)) (sym e) (subst AreLines (sym (append-nil a)) p)
AreLines-append a b p (inr q) = inr (a ++ q.0, ap (λ (t : List ℕ). a ++ t) q.1 ∙ sym (append_assoc a q.0 (10 ∷ [])))

-- ---- the same texts

-- each text of the first form is one of the second
abbrev pub IsPart : {X Y : Type 0} → Form X → Form Y → Type 0
IsPart {X} {Y} F G = (x : X) → F.Fits x → (y : Y) × G.Fits y × (G.text y ≡ F.text x)

part_taken : {X Y : Type 0} (F : Form X) (G : Form Y) → IsPart F G → (bytes : List ℕ) → TakesNone G bytes → TakesNone F bytes
part_taken F G part bytes none = λ x rest t.
    let y = part x t.fits in
    none y.0 rest (record { fits = y.1; parts = t.parts ∙ ap (λ (v : List ℕ). v ++ rest) (sym y.2) })

-- forms with the same texts stop at the same line
pub same_stops : {X Y : Type 0} (F : Form X) (G : Form Y) → IsPart F G → IsPart G F → (bytes : List ℕ) (left : ℕ)
    → Stops F bytes left → Stops G bytes left
same_stops F G there back bytes left s =
    let y = there s.begins.value s.begins.fits in
    record {
      front = s.front;
      rest = s.rest;
      parts = s.parts;
      left_is = s.left_is;
      lines = s.lines;
      begins = record { value = y.0; rest = s.begins.rest; fits = y.1; text = y.2 ∙ s.begins.text };
      no_more = λ line after behind one e. part_taken G F back (s.front ++ line ++ 10 ∷ behind)
          (s.no_more line after behind one e);
      none = part_taken G F back bytes s.none;
    }

-- and one is sound as the other is, where each value comes back
pub same_sound : {X Y : Type 0} (F : Form X) (G : Form Y) (to : X → Y) (there : IsPart F G) (back : IsPart G F)
    → ((y : Y) (fits : G.Fits y) → to (back y fits).0 ≡ y) → IsSound F → IsSound G
same_sound F G to there back same sound =
    record {
      one = λ y a z b fy fz e.
          let v = back y fy in
          let w = back z fz in
          let text : F.text v.0 ++ a ≡ F.text w.0 ++ b = ap (λ (t : List ℕ). t ++ a) v.2 ∙ e
          ∙ ap (λ (t : List ℕ). t ++ b) (sym w.2) in
          let found = sound.one v.0 a w.0 b v.1 w.1 text in
          (sym (same y fy) ∙ ap to found.0 ∙ same z fz, found.1);
      some = (let y = there sound.some.0 sound.some.1 in (y.0, y.1));
      lines = λ y fits. let v = back y fits in subst AreLines v.2 (sound.lines v.0 v.1);
    }

-- ---- one form behind another

module _ {X Y : Type 0} (F : Form X) (G : X → Form Y) where
  front_taken : (bytes : List ℕ) (p : X × Y) (rest : List ℕ) → Takes (then F G) bytes p rest
      → Takes F bytes p.0 ((G p.0).text p.1 ++ rest)
  front_taken bytes p rest t = record { fits = t.fits.0; parts = t.parts ∙ append_assoc (F.text p.0) ((G p.0).text p.1) rest }

  no_front : (bytes : List ℕ) → TakesNone F bytes → TakesNone (then F G) bytes
  no_front bytes none = λ p rest t. none p.0 ((G p.0).text p.1 ++ rest) (front_taken bytes p rest t)

  -- what is behind the first
  behind_taken : IsOne F → (x : X) (mid : List ℕ) → F.Fits x → (p : X × Y) (rest : List ℕ)
      → Takes (then F G) (F.text x ++ mid) p rest → Takes (G x) mid p.1 rest
  behind_taken one x mid fits p rest t =
      let f = front_taken (F.text x ++ mid) p rest t in
      let same = one x mid p.0 ((G p.0).text p.1 ++ rest) fits f.fits f.parts in
      subst (λ (z : X). Takes (G z) mid p.1 rest) (sym same.0) (record { fits = t.fits.1; parts = same.1 })

  no_behind : IsOne F → (x : X) (mid : List ℕ) → F.Fits x → TakesNone (G x) mid → TakesNone (then F G) (F.text x ++ mid)
  no_behind one x mid fits none = λ p rest t. none p.1 rest (behind_taken one x mid fits p rest t)

  pub then_takes : (bytes : List ℕ) (x : X) (mid : List ℕ) (y : Y) (rest : List ℕ) → Takes F bytes x mid → Takes (G x) mid y rest
      → Takes (then F G) bytes (x, y) rest
  then_takes bytes x mid y rest s t = record {
    fits = (s.fits, t.fits);
    parts = s.parts ∙ ap (λ (v : List ℕ). F.text x ++ v) t.parts ∙ sym (append_assoc (F.text x) ((G x).text y) rest);
  }

  -- reading stops in the first
  pub stops_first : ((x : X) → F.Fits x → HasSome (G x)) → (bytes : List ℕ) (left : ℕ) → Stops F bytes left
      → Stops (then F G) bytes left
  stops_first some bytes left s =
      let x = s.begins.value in
      let y = some x s.begins.fits in
      let more = (G x).text y.0 in
      record {
        front = s.front;
        rest = s.rest;
        parts = s.parts;
        left_is = s.left_is;
        lines = s.lines;
        begins = record {
          value = (x, y.0);
          rest = s.begins.rest ++ more;
          fits = (s.begins.fits, y.1);
          text = ap
              (λ (v : List ℕ). v ++ more) s.begins.text ∙ append_assoc s.front s.begins.rest more;
        };
        no_more = λ line after behind one e. no_front (s.front ++ line ++ 10 ∷ behind) (s.no_more line after behind one e);
        none = no_front bytes s.none;
      }

  -- reading stops behind the first
  pub stops_behind : IsSound F → (bytes : List ℕ) (x : X) (mid : List ℕ) (left : ℕ) → Takes F bytes x mid → Stops (G x) mid left
      → Stops (then F G) bytes left
  stops_behind sound bytes x mid left t s =
      record {
        front = F.text x ++ s.front;
        rest = s.rest;
        parts = t.parts ∙ ap (λ (v : List ℕ). F.text x ++ v) s.parts ∙ sym (append_assoc (F.text x) s.front s.rest);
        left_is = s.left_is;
        lines = AreLines-append (F.text x) s.front (sound.lines x t.fits) s.lines;
        begins = record {
          value = (x, s.begins.value);
          rest = s.begins.rest;
          fits = (t.fits, s.begins.fits);
          text = ap (λ (v : List ℕ). F.text x ++ v) s.begins.text ∙ sym (append_assoc (F.text x) s.front s.begins.rest);
        };
        no_more = λ line after behind one e.
            subst (TakesNone (then F G)) (sym (regroup (F.text x) s.front line (10 ∷ behind)))
            (no_behind sound.one x (s.front ++ line ++ 10 ∷ behind) t.fits (s.no_more line after behind one e));
        none = subst (TakesNone (then F G)) (sym t.parts) (no_behind sound.one x mid t.fits s.none);
      }
    where
      regroup : (a b c d : List ℕ) → (a ++ b) ++ c ++ d ≡ a ++ (b ++ c ++ d)
      regroup a b c d = simp append_assoc

  pub then_one : IsOne F → ((x : X) → F.Fits x → IsOne (G x)) → IsOne (then F G)
  then_one one others p a q b fp fq e =
      let first : F.text p.0 ++ ((G p.0).text p.1 ++ a) ≡ F.text q.0 ++ ((G q.0).text q.1 ++ b)
      = sym (append_assoc (F.text p.0) ((G p.0).text p.1) a) ∙ e ∙ append_assoc (F.text q.0) ((G q.0).text q.1) b in
      let same = one p.0 ((G p.0).text p.1 ++ a) q.0 ((G q.0).text q.1 ++ b) fp.0 fq.0 first in
      let back : q.0 ≡ p.0 = sym same.0 in
      let fits : (G p.0).Fits q.1 = subst (λ (z : X). (G z).Fits q.1) back fq.1 in
      let text : (G p.0).text p.1 ++ a ≡ (G p.0).text q.1 ++ b
      = same.1 ∙ ap (λ (z : X). (G z).text q.1 ++ b) back in
      let second = others p.0 fp.0 p.1 a q.1 b fp.1 fits text in
      (ap (λ (y : Y). (p.0, y)) second.0 ∙ ap (λ (x : X). (x, q.1)) same.0, second.1)

  pub then_sound : IsSound F → ((x : X) → F.Fits x → IsSound (G x)) → IsSound (then F G)
  then_sound s others =
      record {
        one = then_one s.one (λ x fits. (others x fits).one);
        some = ((s.some.0, (others s.some.0 s.some.1).some.0), (s.some.1, (others s.some.0 s.some.1).some.1));
        lines = λ p fits. AreLines-append (F.text p.0) ((G p.0).text p.1) (s.lines p.0 fits.0)
            ((others p.0 fits.0).lines p.1 fits.1);
      }

-- ---- one line

-- words in one line, which tell their value
pub record IsWords {X : Type 0} (Fits : X → Type 0) (words : X → List ℕ) : Type 0 where
  pub one_line : (x : X) → Fits x → IsOneLine (words x)
  pub same : (x y : X) → Fits x → Fits y → words x ≡ words y → x ≡ y

module _ {X : Type 0} (Fits : X → Type 0) (words : X → List ℕ) where
  pub line_sound : IsWords Fits words → HasSome (line_form Fits words) → IsSound (line_form Fits words)
  line_sound are some =
      record {
        one = λ x a y b fx fy e.
            let lines : words x ++ 10 ∷ a ≡ words y ++ 10 ∷ b = sym (append_assoc (words x) (10 ∷ []) a) ∙ e
            ∙ append_assoc (words y) (10 ∷ []) b in
            let parts = line_one (words x) (words y) a b (are.one_line x fx) (are.one_line y fy) lines in
            (are.same x y fx fy parts.0, parts.1);
        some = some;
        lines = λ x fits. inr (words x, refl);
      }

  pub line_taken : (bytes line rest : List ℕ) (x : X) → line_at bytes ≡ Some (line, rest) → Fits x → line ≡ words x
      → Takes (line_form Fits words) bytes x rest
  line_taken bytes line rest x cut fits is =
      let parts = (line_takes bytes (line, rest) cut).parts in
      record { fits = fits; parts = parts ∙ ap (λ (v : List ℕ). v ++ 10 ∷ rest) is ∙ sym (append_assoc (words x) (10 ∷ []) rest) }

  -- the line at the front is the words
  cut_again : IsWords Fits words → (bytes : List ℕ) (x : X) (rest : List ℕ) → Takes (line_form Fits words) bytes x rest
      → line_at bytes ≡ Some (words x, rest)
  cut_again are bytes x rest t = ap line_at (t.parts ∙ append_assoc (words x) (10 ∷ []) rest)
      ∙ line_again (words x) rest (are.one_line x t.fits)

  stops_here : IsWords Fits words → HasSome (line_form Fits words) → (bytes : List ℕ) → TakesNone (line_form Fits words) bytes
      → Stops (line_form Fits words) bytes (length bytes)
  stops_here are some bytes none =
      record {
        front = [];
        rest = bytes;
        parts = refl;
        left_is = refl;
        lines = inl refl;
        begins = record { value = some.0; rest = words some.0 ++ 10 ∷ []; fits = some.1; text = refl };
        no_more = λ line after behind one e x rest t.
            let here : line_at (line ++ 10 ∷ behind) ≡ Some (line, behind) = line_again line behind one in
            let parts = some_pair_parts line (words x) behind rest (sym here ∙ cut_again are (line ++ 10 ∷ behind) x rest t) in
            none x after (record {
              fits = t.fits;
              parts = e ∙ ap (λ (v : List ℕ). v ++ 10 ∷ after) parts.0
                  ∙ sym (append_assoc (words x) (10 ∷ []) after);
            });
        none = none;
      }

  -- no LF follows
  pub no_line : IsWords Fits words → HasSome (line_form Fits words) → (bytes : List ℕ) → line_at bytes ≡ None
      → Stops (line_form Fits words) bytes (length bytes)
  no_line are some bytes missing =
      stops_here are some bytes (λ x rest t. let e : None ≡ Some (words x, rest) = sym missing
      ∙ cut_again are bytes x rest t in absurd cc)

  -- the line is in another form
  pub other_line : IsWords Fits words → HasSome (line_form Fits words) → (bytes line rest : List ℕ)
      → line_at bytes ≡ Some (line, rest)
      → ((x : X) → Fits x → line ≡ words x → ⊥) → Stops (line_form Fits words) bytes (length bytes)
  other_line are some bytes line rest cut other =
      stops_here are some bytes
      (λ x after t. other x t.fits (some_pair_parts line (words x) rest after (sym cut ∙ cut_again are bytes x after t)).0)

-- ---- one line that is read whole

-- words in one line, that are read as they are written
pub record IsRead {X : Type 0} (Fits : X → Type 0) (words : X → List ℕ) (decode : List ℕ → Option X) : Type 0 where
  pub one_line : (x : X) → Fits x → IsOneLine (words x)
  pub takes : (line : List ℕ) (x : X) → decode line ≡ Some x → Fits x × (line ≡ words x)
  pub again : (x : X) → Fits x → decode (words x) ≡ Some x

module _ {X : Type 0} {Fits : X → Type 0} {words : X → List ℕ} {decode : List ℕ → Option X} (read : IsRead Fits words decode)
  where
    pub read_words : IsWords Fits words
    read_words = record {
      one_line = read.one_line;
      same = λ x y fx fy e. same_Some x y (sym (read.again x fx) ∙ ap decode e ∙ read.again y fy);
    }

    pub read_taken : (bytes line rest : List ℕ) (x : X) → line_at bytes ≡ Some (line, rest) → decode line ≡ Some x
        → Takes (line_form Fits words) bytes x rest
    read_taken bytes line rest x cut found = let t = read.takes line x found in line_taken Fits words bytes line rest x cut t.0 t.1

    pub read_missing : HasSome (line_form Fits words) → (bytes : List ℕ) → line_at bytes ≡ None
        → Stops (line_form Fits words) bytes (length bytes)
    read_missing some bytes missing = no_line Fits words read_words some bytes missing

    not_written : (line : List ℕ) → decode line ≡ None → (x : X) → Fits x → line ≡ words x → ⊥
    not_written line none x fits e =
        let found : None ≡ Some x = sym none ∙ ap decode e ∙ read.again x fits in
        absurd cc

    pub read_other : HasSome (line_form Fits words) → (bytes line rest : List ℕ) → line_at bytes ≡ Some (line, rest)
        → decode line ≡ None
        → Stops (line_form Fits words) bytes (length bytes)
    read_other some bytes line rest cut none = other_line Fits words read_words some bytes line rest cut (not_written line none)

-- ---- as functions end

-- where one reading stops another does
pub fails : {X Y : Type 0} (F : Form X) (G : Form Y) (bytes rest : List ℕ) (e : OrMemory BadLine) → Fails F rest e
    → ((left : ℕ) → Stops F rest left → Stops G bytes left) → Fails G bytes e
fails F G bytes rest (Refused bad) h step = step bad.left h
fails F G bytes rest Memory h step = tt
