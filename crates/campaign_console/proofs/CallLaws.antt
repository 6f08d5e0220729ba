-- The entries that lines have in a history are calls of the opening pass, which give and deposit nothing.
use Rattle.std.proofs.Common.{◌≡◌, ◌≢◌, ◌==◌, ◌||◌, ◌&&◌, not, ℕ, Bool, true, false, cond, List, [], ◌∷◌, ◌++◌, refl, ap, sym, ◌∙◌, subst}
use Rattle.std.proofs.lemmas.Bool.{ne_eqb}
use Rattle.std.proofs.lemmas.List.{append-nil}
use Rattle.std.specs.List.{list_any}
use Rattle.campaign_core.specs.declared.call.Call.{Call}
use Rattle.campaign_core.specs.declared.call.Call.TheVariants as call
use Rattle.campaign_core.specs.declared.call.Reply.{Reply}
use Rattle.campaign_core.specs.declared.call.Reply.TheVariants as reply
use Rattle.campaign_core.specs.declared.call.Entry.{Entry}
use Rattle.campaign_core.specs.Ranges.{has_range}
use Rattle.campaign_core.specs.History.{range_in, deposit_in, is_cancel, ranges_of, deposits_of, out_of, calls_of}
use Rattle.campaign_core.proofs.HistoryLaws.{ranges-nil, ranges-append, ranges-one, deposits-nil, deposits-append, deposits-one, calls-nil, calls-append}
use Rattle.campaign_core.proofs.WithoutLaws.{has-without}
use Rattle.turn_book.specs.declared.view.View.{View}
use Rattle.campaign_workers.specs.Working.{SameOut}
use Rattle.sample_run.specs.SampleWorks.{WorkTerms}
use Rattle.campaign_console.specs.declared.requests.Request.{Request}
use Rattle.campaign_console.specs.declared.requests.Request.TheVariants as request
use Rattle.campaign_console.specs.declared.answers.Answer.{Answer}
use Rattle.campaign_console.specs.declared.answers.Answer.TheVariants as answer
use Rattle.campaign_console.specs.declared.lines.LinesEnd.{LinesEnd}
use Rattle.campaign_console.specs.declared.lines.LinesEnd.TheVariants.{AllRead, ReadFault, WriteFault, OutOfMemory}
use Rattle.campaign_console.specs.LineCalls.{request_of, is_cancel_request, asks_cancel}
use Rattle.campaign_console.specs.LineTexts.{made, IsReplied, AreAnswered}
use Rattle.campaign_console.specs.LineEnds.{Outside, last_call, LinesRead}

-- an entry of the opening pass that gives and deposits nothing
pub record IsAsk (e : Entry) : Type 0 where
  pub caller : e.caller ≡ 0
  pub gives : range_in e.reply ≡ []
  pub deposits : deposit_in e.call ≡ []

-- all entries are such
abbrev pub AreAsks : List Entry → Type 0
AreAsks [] = Unit {0}
AreAsks (e ∷ es) = IsAsk e × AreAsks es

asks_both : (xs ys : List Entry) → AreAsks xs → AreAsks ys → AreAsks (xs ++ ys)
asks_both [] ys a b = b
asks_both (x ∷ xs) ys a b = (a.0, asks_both xs ys a.1 b)

asks_made : (c : Call) (r : Reply) → range_in r ≡ [] → deposit_in c ≡ [] → AreAsks (made c r)
asks_made c r gives deposits = (record { caller = refl; gives = gives; deposits = deposits }, tt)

asks_is : (es fs : List Entry) → es ≡ fs → AreAsks fs → AreAsks es
asks_is es fs same asks = subst AreAsks (sym same) asks

-- whether entries have a cancel
abbrev pub have_cancel : List Entry → Bool
have_cancel es = list_any (λ (e : Entry). is_cancel e.call) es

-- what a request is answered asks, and has a cancel just where it asks for one
record Replies (asked : Request) (es : List Entry) : Type 0 where
  asks : AreAsks es
  cancels : have_cancel es ≡ is_cancel_request asked

replies_made : (asked : Request) (es : List Entry) (c : Call) (r : Reply) → es ≡ made c r → range_in r ≡ [] → deposit_in c ≡ [] → is_cancel c ≡ is_cancel_request asked → Replies asked es
replies_made asked es c r is gives deposits cancels = record {
  asks = asks_is es (made c r) is (asks_made c r gives deposits);
  cancels = ap have_cancel is ∙ (or_nothing (is_cancel c) ∙ cancels);
}
  where
    or_nothing : (b : Bool) → (b || false) ≡ b
    or_nothing true = refl
    or_nothing false = refl

replies_none : (asked : Request) (es : List Entry) → es ≡ [] → is_cancel_request asked ≡ false → Replies asked es
replies_none asked es is none = record { asks = asks_is es [] is tt; cancels = ap have_cancel is ∙ sym none }

replied : (work : WorkTerms) (asked : Request) (given : Answer) (es : List Entry) → IsReplied work asked given es → Replies asked es
replied work request.Progress (answer.Progress gate) es is = replies_made request.Progress es call.Progress (reply.Progress gate) is refl refl refl
replied work request.Report (answer.Report gate runs totals) es is = replies_made request.Report es call.Interim (reply.Interim gate runs) is.0 refl refl refl
replied work (request.Extend more) (answer.Target target) es is = replies_made (request.Extend more) es (call.Extend more) (reply.Now target) is refl refl refl
replied work (request.Extend more) answer.RefusedCancelled es is = replies_made (request.Extend more) es (call.Extend more) reply.Cancelled is refl refl refl
replied work (request.Extend more) answer.RefusedSealed es is = replies_made (request.Extend more) es (call.Extend more) reply.Sealed is refl refl refl
replied work (request.Extend more) (answer.RefusedTooMany target) es is = replies_made (request.Extend more) es (call.Extend more) (reply.TooMany target) is refl refl refl
replied work request.Seal answer.Sealed es is = replies_made request.Seal es call.Seal reply.Marked is refl refl refl
replied work request.Cancel answer.Cancelled es is = replies_made request.Cancel es call.Cancel reply.Marked is refl refl refl
replied work request.Long answer.Long es is = replies_none request.Long es is refl
replied work request.Unknown answer.Unknown es is = replies_none request.Unknown es is refl
replied work asked other es is = absurd is

cancel-append : (xs ys : List Entry) → have_cancel (xs ++ ys) ≡ (have_cancel xs || have_cancel ys)
cancel-append [] ys = refl
cancel-append (x ∷ xs) ys = ap (λ b. is_cancel x.call || b) (cancel-append xs ys) ∙ or_assoc (is_cancel x.call) (have_cancel xs) (have_cancel ys)
  where
    or_assoc : (a b c : Bool) → (a || (b || c)) ≡ ((a || b) || c)
    or_assoc true b c = refl
    or_assoc false b c = refl

-- the entries of answered lines ask, and have a cancel just where a line asks for one
pub answered_asks : (work : WorkTerms) (lines : List (List ℕ)) (es : List Entry) (text : List ℕ) → AreAnswered work lines es text
    → AreAsks es × (have_cancel es ≡ list_any asks_cancel lines)
answered_asks work [] es text is = (asks_is es [] is.0 tt, ap have_cancel is.0)
answered_asks work (line ∷ lines) es text is =
    let one = replied work (request_of line) is.first.given is.own is.first.replied in
    let rest = answered_asks work lines is.later is.rest is.others in (
      asks_is es (is.own ++ is.later) is.entries_are (asks_both is.own is.later one.asks rest.0),
      ap have_cancel is.entries_are
          ∙ (cancel-append is.own is.later
          ∙ (ap (λ b. b || have_cancel is.later) one.cancels ∙ ap (λ b. asks_cancel line || b) rest.1)),
    )

asks_last : (end : LinesEnd) → AreAsks (made (last_call end) reply.Marked)
asks_last AllRead = asks_made call.Seal reply.Marked refl refl
asks_last ReadFault = asks_made call.Cancel reply.Marked refl refl
asks_last WriteFault = asks_made call.Cancel reply.Marked refl refl
asks_last OutOfMemory = asks_made call.Cancel reply.Marked refl refl

pub read_asks : (work : WorkTerms) (end : LinesEnd) (before now : Outside) (own : List Entry) → LinesRead work end before now own → AreAsks own
read_asks work end before now own read =
    let a = read.answers in
    asks_is own (read.entries ++ made (last_call end) reply.Marked) read.are
    (asks_both read.entries (made (last_call end) reply.Marked) (answered_asks work a.lines read.entries a.text a.answered).0 (asks_last end))

-- where all lines were read, the entries have a cancel just where a line asks for one
pub read_cancels : (work : WorkTerms) (before now : Outside) (own : List Entry) (read : LinesRead work AllRead before now own)
    → have_cancel own ≡ list_any asks_cancel read.answers.lines
read_cancels work before now own read =
    let a = read.answers in
    ap have_cancel read.are
    ∙ (cancel-append read.entries (made call.Seal reply.Marked)
    ∙ (or_none (have_cancel read.entries) ∙ (answered_asks work a.lines read.entries a.text a.answered).1))
  where
    or_none : (b : Bool) → (b || false) ≡ b
    or_none true = refl
    or_none false = refl

-- ---- what such entries do

pub asks_ranges : (es : List Entry) → AreAsks es → ranges_of es ≡ []
asks_ranges [] asks = ranges-nil
asks_ranges (e ∷ es) asks =
    ranges-append (e ∷ []) es ∙ (ap (λ l. l ++ ranges_of es) (ranges-one e ∙ asks.0.gives) ∙ asks_ranges es asks.1)

pub asks_deposits : (es : List Entry) → AreAsks es → deposits_of es ≡ []
asks_deposits [] asks = deposits-nil
asks_deposits (e ∷ es) asks =
    deposits-append (e ∷ []) es ∙ (ap (λ l. l ++ deposits_of es) (deposits-one e ∙ asks.0.deposits) ∙ asks_deposits es asks.1)

keeps_one : (n : ℕ) (e : Entry) → calls_of n (e ∷ []) ≡ cond (e.caller == n) (e ∷ []) []
unfolding calls_of
keeps_one n e = refl

pub asks_own : (es : List Entry) → AreAsks es → calls_of 0 es ≡ es
asks_own [] asks = calls-nil 0
asks_own (e ∷ es) asks =
    calls-append 0 (e ∷ []) es
    ∙ (ap (λ l. l ++ calls_of 0 es) (keeps_one 0 e ∙ ap (λ n. cond (n == 0) (e ∷ []) []) asks.0.caller) ∙ ap (λ l. e ∷ l) (asks_own es asks.1))

pub asks_other : (n : ℕ) → n ≢ 0 → (es : List Entry) → AreAsks es → calls_of n es ≡ []
asks_other n other [] asks = calls-nil n
asks_other n other (e ∷ es) asks =
    calls-append n (e ∷ []) es
    ∙ (ap (λ l. l ++ calls_of n es) (keeps_one n e ∙ (ap (λ m. cond (m == n) (e ∷ []) []) asks.0.caller ∙ ap (λ b. cond b (e ∷ []) []) (ne_eqb 0 n (λ z. other (sym z)))))
    ∙ asks_other n other es asks.1)

module _ {B : Type 0} where
  -- what is out stays
  pub asks_out : (v w : View B) (es : List Entry) → AreAsks es → w.calls ≡ v.calls ++ es → SameOut v w
  asks_out v w es asks calls r =
      let ranges : ranges_of (v.calls ++ es) ≡ ranges_of v.calls = ranges-append v.calls es ∙ (ap (λ l. ranges_of v.calls ++ l) (asks_ranges es asks) ∙ append-nil (ranges_of v.calls)) in
      let deposits : deposits_of (v.calls ++ es) ≡ deposits_of v.calls = deposits-append v.calls es ∙ (ap (λ l. deposits_of v.calls ++ l) (asks_deposits es asks) ∙ append-nil (deposits_of v.calls)) in
      ap (λ l. has_range (out_of l) r) calls
      ∙ (has-without (deposits_of (v.calls ++ es)) (ranges_of (v.calls ++ es)) r
      ∙ (ap (λ l. has_range l r && not (has_range (deposits_of (v.calls ++ es)) r)) ranges
      ∙ (ap (λ l. has_range (ranges_of v.calls) r && not (has_range l r)) deposits ∙ sym (has-without (deposits_of v.calls) (ranges_of v.calls) r))))
