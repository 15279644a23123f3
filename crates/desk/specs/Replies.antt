-- What is known of a reply, whatever happened before.
use Rattle.std.specs.Prelude.{◌≡◌, ℕ, true, ⊤}
use Rattle.ja_base.specs.Literals.{bit}
use Rattle.store_core.specs.declared.journal.Opening.{Opening}
use Rattle.store_core.specs.declared.journal.Reply.{Reply}
use Rattle.store_core.specs.declared.journal.Reply.TheVariants.{Job, NoJob, Clauses, Added, Settled, Had, Cancelled, NotNow, GoOn, GaveUp}

-- a reply to `settle`: the mark was set, or one stands
abbrev pub IsSettleReply : Reply → Type 0
IsSettleReply (Settled upto) = ⊤
IsSettleReply (Had m) = ⊤
IsSettleReply (Job p upto) = ⊥
IsSettleReply (NoJob upto) = ⊥
IsSettleReply (Clauses upto) = ⊥
IsSettleReply (Added upto) = ⊥
IsSettleReply Cancelled = ⊥
IsSettleReply NotNow = ⊥
IsSettleReply GoOn = ⊥
IsSettleReply GaveUp = ⊥

-- the opening lets a Cancel stand for the property
pub record MayCancel (o : Opening) (p : ℕ) : Type 0 where
  pub fail_fast : o.fail_fast ≡ true
  pub assumed : bit o.assumed p ≡ true

-- a reply to `cancel`: a Cancel stands from now on, which the opening lets, or not
abbrev pub IsCancelReply : Opening → ℕ → Reply → Type 0
IsCancelReply o p Cancelled = MayCancel o p
IsCancelReply o p NotNow = ⊤
IsCancelReply o p (Settled upto) = ⊥
IsCancelReply o p (Had m) = ⊥
IsCancelReply o p (Job q upto) = ⊥
IsCancelReply o p (NoJob upto) = ⊥
IsCancelReply o p (Clauses upto) = ⊥
IsCancelReply o p (Added upto) = ⊥
IsCancelReply o p GoOn = ⊥
IsCancelReply o p GaveUp = ⊥

-- a reply to `give_up`: the mark that stands, that the property may go on, or that it was given up
abbrev pub IsGiveUpReply : Reply → Type 0
IsGiveUpReply (Had m) = ⊤
IsGiveUpReply GoOn = ⊤
IsGiveUpReply GaveUp = ⊤
IsGiveUpReply (Settled upto) = ⊥
IsGiveUpReply (Job p upto) = ⊥
IsGiveUpReply (NoJob upto) = ⊥
IsGiveUpReply (Clauses upto) = ⊥
IsGiveUpReply (Added upto) = ⊥
IsGiveUpReply Cancelled = ⊥
IsGiveUpReply NotNow = ⊥
