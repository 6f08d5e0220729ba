-- What callers need of lines and ends.
use Rattle.std.proofs.Common.{◌≡◌, ℕ, ◌+◌, ◌<◌, Bool, List, [], ◌∷◌, ◌++◌, length, map, refl, ap, sym, ◌∙◌, subst, inl, inr, arith}
use Rattle.std.proofs.lemmas.Bool.{cases_lt, lt-ltb}
use Rattle.std.proofs.lemmas.List.{take_all, length-take-le}
use Rattle.ra_base.specs.Causes.{Gained}
use Rattle.ra_base.specs.ConsoleLines.{cut_line}
use Rattle.ra_base.specs.declared.limits.TheConstants.{MOST_LINE_BYTES}
use Rattle.campaign_core.specs.declared.call.Entry.{Entry}
use Rattle.turn_book.specs.declared.view.View.{View}
use Rattle.sample_run.specs.SampleWorks.{WorkTerms}
use Rattle.campaign_console.specs.declared.requests.Request.TheVariants.{Long}
use Rattle.campaign_console.specs.LineCalls.{request_of}
use Rattle.campaign_console.specs.LineTexts.{IsReplied, AreAnswered}
use Rattle.campaign_console.specs.LineEnds.{Outside}
use Rattle.campaign_console.specs.Ends.{Reports}
use Rattle.campaign_console.proofs.LineLaws.{gained_then}

long_request : (line : List ℕ) → MOST_LINE_BYTES < length line → request_of line ≡ Long
unfolding request_of
long_request line long = rw (lt-ltb MOST_LINE_BYTES (length line) long) refl

-- a line that was cut asks for what the whole line asks for
pub law_cut_request : (line : List ℕ) → request_of (cut_line line) ≡ request_of line
law_cut_request line =
    elim (cases_lt MOST_LINE_BYTES (length line)) [
      | inl long ↦
          let cut : length (cut_line line) ≡ MOST_LINE_BYTES + 1 = length-take-le (MOST_LINE_BYTES + 1) line (omega (arith, long)) in
          long_request (cut_line line) (omega (arith, cut)) ∙ sym (long_request line long)
      | inr short ↦ ap request_of (take_all (MOST_LINE_BYTES + 1) line (omega (arith, short)))
    ]

-- lines that were cut are answered as whole lines are
pub law_cut_answered : (work : WorkTerms) (lines : List (List ℕ)) (entries : List Entry) (text : List ℕ) → AreAnswered work (map cut_line lines) entries text → AreAnswered work lines entries text
law_cut_answered work [] entries text is = is
law_cut_answered work (line ∷ lines) entries text is = record {
  own = is.own;
  later = is.later;
  said = is.said;
  rest = is.rest;
  first = record {
    given = is.first.given;
    replied = subst (λ asked. IsReplied work asked is.first.given is.own) (law_cut_request line) is.first.replied;
    said = is.first.said;
  };
  others = law_cut_answered work lines is.later is.rest is.others;
  entries_are = is.entries_are;
  text_is = is.text_is;
}

module _ {B : Type 0} where
  -- the sink has gained the text of the lines and then that of the final report
  pub law_reported : (terms : WorkTerms) (cancelled : Bool) (before now : Outside) (w : View B) (r : Reports terms cancelled before now w)
      → Gained before.held now.held (r.read.answers.text ++ r.text)
  law_reported terms cancelled before now w r =
      gained_then before.held r.middle.held now.held r.read.answers.text r.text r.read.answers.written r.written.written
