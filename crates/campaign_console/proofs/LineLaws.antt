-- How what came of lines is put together, and what of it a reader of the history needs.
use Rattle.std.proofs.Common.{◌≡◌, inl, inr, ℕ, true, false, List, [], ◌∷◌, ◌++◌, map, Option, Some, None, Result, Ok, Err, OnOk, is_err, refl, ap, sym, ◌∙◌, subst, append_assoc}
use Rattle.std.proofs.lemmas.Bool.{false≢true}
use Rattle.std.proofs.lemmas.List.{append-nil, map-append}
use Rattle.ra_base.specs.Causes.{Counts, Gained, GainedPart}
use Rattle.ra_base.specs.ConsoleLines.{cut_line, LinesTold}
use Rattle.ra_base.specs.declared.console.ConsoleError.TheVariants as unread
use Rattle.campaign_core.specs.declared.call.Entry.{Entry}
use Rattle.campaign_core.specs.declared.call.Reply.TheVariants.{Marked}
use Rattle.campaign_core.specs.Ranges.{samples_of}
use Rattle.turn_book.specs.declared.view.View.{View}
use Rattle.campaign.specs.Passes.{Says}
use Rattle.sample_run.specs.SampleWorks.{WorkTerms}
use Rattle.sample_run.proofs.WorkLaws.{stands_zones}
use Rattle.campaign_console.specs.declared.requests.Request.{Request}
use Rattle.campaign_console.specs.declared.requests.Request.TheVariants as request
use Rattle.campaign_console.specs.declared.answers.Answer.{Answer}
use Rattle.campaign_console.specs.declared.answers.Answer.TheVariants as answer
use Rattle.campaign_console.specs.declared.lines.LinesEnd.{LinesEnd}
use Rattle.campaign_console.specs.declared.lines.LinesEnd.TheVariants.{AllRead, ReadFault, WriteFault, OutOfMemory}
use Rattle.campaign_console.specs.LineCalls.{request_of}
use Rattle.campaign_console.specs.LineTexts.{answer_text, made, IsReplied, HasZones, IsAnswered, AreAnswered}
use Rattle.campaign_console.specs.Asks.{Adds, Replied}
use Rattle.campaign_console.specs.LineEnds.{Heard, Outside, came, IsLast, MayLack, AreTaken, AllTaken, IsWritten, is_read_fault, is_write_fault, Answers, Gives, LinesRan, LineRan, last_call, LinesCalled}
use Rattle.campaign_console.proofs.AddLaws.{adds_none, adds_then, adds_says}

-- what is promised of an answer that isn't an error
pub on_ok : {A E P : Type 0} (r : Result A E) → is_err r ≡ false → OnOk r P → P
on_ok (Ok a) fine p = p
on_ok (Err e) fine p = absurd (false≢true (sym fine))

-- ---- texts that are gained

pub gained_none : (held : Option (List ℕ)) → Gained held held []
gained_none None = refl
gained_none (Some bytes) = ap Some (sym (append-nil bytes))

pub gained_then : (a b c : Option (List ℕ)) (t u : List ℕ) → Gained a b t → Gained b c u → Gained a c (t ++ u)
gained_then None b c t u one two = subst (λ x. Gained x c u) one two
gained_then (Some bytes) b c t u one two =
    let two' : Gained (Some (bytes ++ t)) c u = subst (λ x. Gained x c u) one two in
    two' ∙ ap Some (append_assoc bytes t u)

pub part_then : (a b c : Option (List ℕ)) (t u : List ℕ) → Gained a b t → GainedPart b c u → GainedPart a c (t ++ u)
part_then a b c t u one two =
    (t ++ two.0, (two.1.0, ap (λ l. t ++ l) two.1.1 ∙ sym (append_assoc t two.0 two.1.0)), gained_then a b c t two.0 one two.2)

-- what gained nothing gained a first part of anything
pub part_none : (held held' : Option (List ℕ)) (text : List ℕ) → held' ≡ held → GainedPart held held' text
part_none held held' text same = ([], (text, refl), same ∙ gained_none held)

-- the whole text is a first part of it
pub part_whole : (held held' : Option (List ℕ)) (text more : List ℕ) → Gained held held' text → GainedPart held held' (text ++ more)
part_whole held held' text more gained = (text, (more, refl), gained)

-- a first part of a text is one of a longer one
pub part_longer : (held held' : Option (List ℕ)) (text more : List ℕ) → GainedPart held held' text → GainedPart held held' (text ++ more)
part_longer held held' text more part =
    (part.0, (part.1.0 ++ more, ap (λ l. l ++ more) part.1.1 ∙ append_assoc part.0 part.1.0 more), part.2)

-- ---- lines that are answered

pub answered_one : (work : WorkTerms) (line : List ℕ) (entries : List Entry) (text : List ℕ) → IsAnswered work line entries text → AreAnswered work (line ∷ []) entries text
answered_one work line entries text is = record {
  own = entries;
  later = [];
  said = text;
  rest = [];
  first = is;
  others = (refl, refl);
  entries_are = sym (append-nil entries);
  text_is = sym (append-nil text);
}

pub answered_both : (work : WorkTerms) (xs ys : List (List ℕ)) (es fs : List Entry) (t u : List ℕ) → AreAnswered work xs es t → AreAnswered work ys fs u → AreAnswered work (xs ++ ys) (es ++ fs) (t ++ u)
answered_both work [] ys es fs t u one two =
    let three : AreAnswered work ys ([] ++ fs) ([] ++ u) = two in
    subst (λ l. AreAnswered work ys (l ++ fs) (t ++ u)) (sym one.0) (subst (λ l. AreAnswered work ys ([] ++ fs) (l ++ u)) (sym one.1) three)
answered_both work (x ∷ xs) ys es fs t u one two = record {
  own = one.own;
  later = one.later ++ fs;
  said = one.said;
  rest = one.rest ++ u;
  first = one.first;
  others = answered_both work xs ys one.later fs one.rest u one.others two;
  entries_are = ap (λ l. l ++ fs) one.entries_are ∙ append_assoc one.own one.later fs;
  text_is = ap (λ l. l ++ u) one.text_is ∙ append_assoc one.said one.rest u;
}

pub zones_replied : (work : WorkTerms) (asked : Request) (given : Answer) (entries : List Entry) → IsReplied work asked given entries → HasZones work.system given
zones_replied work request.Report (answer.Report gate runs totals) entries replied =
    stands_zones work.system work.seed totals (map samples_of runs) replied.1
zones_replied work other (answer.Report gate runs totals) entries replied = absurd replied
zones_replied work asked other entries replied = tt

-- ---- lines that are taken

pub taken_came : (left left' : Option (List (List ℕ))) (text : List ℕ) → LinesTold left left' (Ok (Some text)) → AreTaken left left' (text ∷ [])
taken_came None left' text told = told
taken_came (Some before) left' text told =
    let takes = told.2 in
    (takes.0 ∷ [], told.0, told.1, takes.1, ap (λ l. l ∷ []) takes.2)

taken_same : (before lines : List (List ℕ)) (left' : Option (List (List ℕ))) → left' ≡ Some lines → lines ≡ before → AreTaken (Some before) left' []
taken_same before lines left' now same = ([], lines, now, sym same, refl)

pub taken_none : (left left' : Option (List (List ℕ))) (heard : Heard) → ((text : List ℕ) → heard ≡ Ok (Some text) → ⊥) → LinesTold left left' heard → AreTaken left left' []
taken_none None left' heard none told = told
taken_none (Some before) left' (Ok (Some text)) none told = absurd (none text refl)
taken_none (Some before) left' (Ok None) none told = taken_same before told.0 left' told.1 told.2.1
taken_none (Some before) left' (Err refusal) none told = taken_same before told.0 left' told.1 told.2

pub all_taken : (left left' : Option (List (List ℕ))) → LinesTold left left' (Ok None) → AllTaken (Some AllRead) left'
all_taken None left' told = subst (λ l. AllTaken (Some AllRead) l) (sym told) tt
all_taken (Some before) left' told =
    subst (λ l. AllTaken (Some AllRead) l) (sym told.1) (told.2.1 ∙ told.2.0)

taken_then : (a b c : Option (List (List ℕ))) (xs ys : List (List ℕ)) → AreTaken a b xs → AreTaken b c ys → AreTaken a c (xs ++ ys)
taken_then None b c xs ys one two = subst (λ l. AreTaken l c ys) one two
taken_then (Some before) b c xs ys one two =
    let next : AreTaken (Some one.1) c ys = subst (λ l. AreTaken l c ys) one.2 two in (
      one.0 ++ next.0,
      next.1,
      next.2,
      one.3 ∙ (ap (λ l. one.0 ++ l) next.3 ∙ sym (append_assoc one.0 next.0 next.1)),
      ap (λ l. l ++ ys) one.4 ∙ (ap (λ l. map cut_line one.0 ++ l) next.4 ∙ sym (map-append cut_line one.0 next.0)),
    )

-- ---- what came of lines

answers_none : (work : WorkTerms) (before : Outside) → Answers work None before before []
answers_none work before = record {
  lines = [];
  lacking = [];
  last = [];
  text = [];
  heard = sym (append-nil before.heard);
  is_last = refl;
  lacks = refl;
  apart = inl refl;
  taken = same before.left;
  all = tt;
  answered = (refl, refl);
  written = gained_none before.held;
  reads = refl;
  writes = refl;
}
  where
    same : (left : Option (List (List ℕ))) → AreTaken left left []
    same None = refl
    same (Some lines) = ([], lines, refl, refl, refl)

heard_then : (a b c : List Heard) (xs ys : List (List ℕ)) (last : List Heard) → b ≡ a ++ map came xs → c ≡ b ++ (map came ys ++ last) → c ≡ a ++ (map came (xs ++ ys) ++ last)
heard_then a b c xs ys last one two =
    two
    ∙ (ap (λ l. l ++ (map came ys ++ last)) one
    ∙ (append_assoc a (map came xs) (map came ys ++ last)
    ∙ ap (λ l. a ++ l) (sym (append_assoc (map came xs) (map came ys) last) ∙ ap (λ l. l ++ last) (sym (map-append came xs ys)))))

written_then : (end : Option LinesEnd) (a b c : Option (List ℕ)) (t u : List ℕ) → Gained a b t → IsWritten end b c u → IsWritten end a c (t ++ u)
written_then None a b c t u one two = gained_then a b c t u one two
written_then (Some AllRead) a b c t u one two = gained_then a b c t u one two
written_then (Some ReadFault) a b c t u one two = gained_then a b c t u one two
written_then (Some WriteFault) a b c t u one two = part_then a b c t u one two
written_then (Some OutOfMemory) a b c t u one two = part_then a b c t u one two

answers_then : (work : WorkTerms) (end : Option LinesEnd) (a b c : Outside) (es fs : List Entry) → Answers work None a b es → Answers work end b c fs → Answers work end a c (es ++ fs)
answers_then work end a b c es fs one two =
    let all : one.lines ++ one.lacking ≡ one.lines = ap (λ l. one.lines ++ l) one.lacks ∙ append-nil one.lines in
    let assoc : one.lines ++ (two.lines ++ two.lacking) ≡ (one.lines ++ two.lines) ++ two.lacking = sym (append_assoc one.lines two.lines two.lacking) in
    let heard : b.heard ≡ a.heard ++ map came one.lines =
    one.heard
    ∙ ap (λ l. a.heard ++ l) (ap (λ l. map came (one.lines ++ one.lacking) ++ l) one.is_last ∙ (append-nil (map came (one.lines ++ one.lacking)) ∙ ap (map came) all)) in
    record {
      lines = one.lines ++ two.lines;
      lacking = two.lacking;
      last = two.last;
      text = one.text ++ two.text;
      heard = heard_then a.heard b.heard c.heard one.lines (two.lines ++ two.lacking) two.last heard two.heard ∙ ap (λ l. a.heard ++ (map came l ++ two.last)) assoc;
      is_last = two.is_last;
      lacks = two.lacks;
      apart = two.apart;
      taken = subst (AreTaken a.left c.left) assoc (taken_then a.left b.left c.left one.lines (two.lines ++ two.lacking) (subst (AreTaken a.left b.left) all one.taken) two.taken);
      all = two.all;
      answered = answered_both work one.lines two.lines es fs one.text two.text one.answered two.answered;
      written = written_then end a.held b.held c.held one.text two.text one.written two.written;
      reads = subst (λ n. Counts (is_read_fault end) n c.reads) one.reads two.reads;
      writes = subst (λ n. Counts (is_write_fault end) n c.writes) one.writes two.writes;
    }

module _ {B : Type 0} where
  pub ran_none : (work : WorkTerms) (before : Outside) (v : View B) → LinesRan work None before before v v
  ran_none work before v = record { entries = []; answers = answers_none work before; adds = adds_none v }

  pub ran_then : (work : WorkTerms) (end : Option LinesEnd) (a b c : Outside) (v u w : View B) → LinesRan work None a b v u → LinesRan work end b c u w → LinesRan work end a c v w
  ran_then work end a b c v u w one two = record {
    entries = one.entries ++ two.entries;
    answers = answers_then work end a b c one.entries two.entries one.answers two.answers;
    adds = adds_then v u w one.entries two.entries one.adds two.adds;
  }

-- ---- one line

-- a line that came and was answered, whatever became of the answer
answered_line : (work : WorkTerms) (line : List ℕ) (end : Option LinesEnd) (before now : Outside) (entries : List Entry) (text : List ℕ)
    → now.heard ≡ before.heard ++ Ok (Some line) ∷ [] → LinesTold before.left now.left (Ok (Some line))
    → IsLast end [] → MayLack end [] → AllTaken end now.left → Counts (is_read_fault end) before.reads now.reads
    → IsAnswered work line entries text → IsWritten end before.held now.held text → Counts (is_write_fault end) before.writes now.writes
    → Answers work end before now entries
answered_line work line end before now entries text heard told is_last lacks all reads answered written writes = record {
  lines = line ∷ [];
  lacking = [];
  last = [];
  text = text;
  heard = heard;
  is_last = is_last;
  lacks = lacks;
  apart = inl refl;
  taken = taken_came before.left now.left line told;
  all = all;
  answered = answered_one work line entries text answered;
  written = written;
  reads = reads;
  writes = writes;
}

-- a line that came, by what came of it
line_answers : (work : WorkTerms) (line : List ℕ) (end : Option LinesEnd) (before now : Outside) (entries : List Entry)
    → now.heard ≡ before.heard ++ Ok (Some line) ∷ [] → LinesTold before.left now.left (Ok (Some line)) → now.reads ≡ before.reads
    → Gives work line end before.held now.held before.writes now.writes entries → Answers work end before now entries
line_answers work line None before now entries heard told reads gives =
    answered_line work line None before now entries gives.0 heard told refl refl tt reads gives.1 gives.2 gives.3
line_answers work line (Some WriteFault) before now entries heard told reads gives =
    answered_line work line (Some WriteFault) before now entries gives.0 heard told refl refl tt reads gives.1 gives.2 gives.3
line_answers work line (Some OutOfMemory) before now entries heard told reads gives =
    elim gives.0 [
      | inl answered ↦
          answered_line work line (Some OutOfMemory) before now entries answered.0 heard told (inl refl) refl tt reads answered.1
          (part_none before.held now.held answered.0 gives.1) gives.2
      | inr lacks ↦ record {
        lines = [];
        lacking = line ∷ [];
        last = [];
        text = [];
        heard = heard;
        is_last = inl refl;
        lacks = lacks.0;
        apart = inr refl;
        taken = taken_came before.left now.left line told;
        all = tt;
        answered = (lacks.1, refl);
        written = part_none before.held now.held [] gives.1;
        reads = reads;
        writes = gives.2;
      }
    ]
line_answers work line (Some AllRead) before now entries heard told reads gives = absurd gives
line_answers work line (Some ReadFault) before now entries heard told reads gives = absurd gives

-- no line came, and the sink is as before
no_line : (work : WorkTerms) (end : LinesEnd) (before now : Outside) (last : Heard) → ((text : List ℕ) → last ≡ Ok (Some text) → ⊥)
    → now.heard ≡ before.heard ++ last ∷ [] → IsLast (Some end) (last ∷ []) → MayLack (Some end) []
    → LinesTold before.left now.left last → AllTaken (Some end) now.left → Counts (is_read_fault (Some end)) before.reads now.reads
    → IsWritten (Some end) before.held now.held [] → Counts (is_write_fault (Some end)) before.writes now.writes → Answers work (Some end) before now []
no_line work end before now last none heard is_last lacks told all reads written writes = record {
  lines = [];
  lacking = [];
  last = last ∷ [];
  text = [];
  heard = heard;
  is_last = is_last;
  lacks = lacks;
  apart = inl refl;
  taken = taken_none before.left now.left last none told;
  all = all;
  answered = (refl, refl);
  written = written;
  reads = reads;
  writes = writes;
}

same_gained : (held held' : Option (List ℕ)) → held' ≡ held → Gained held held' []
same_gained held held' same = same ∙ gained_none held

module _ {B : Type 0} where
  pub ran_line : (work : WorkTerms) (line : List ℕ) (end : Option LinesEnd) (before now : Outside) (v w : View B)
      → now.heard ≡ before.heard ++ Ok (Some line) ∷ [] → LinesTold before.left now.left (Ok (Some line)) → now.reads ≡ before.reads
      → LineRan work line end before.held now.held before.writes now.writes v w → LinesRan work end before now v w
  ran_line work line end before now v w heard told reads ran = record {
    entries = ran.entries;
    answers = line_answers work line end before now ran.entries heard told reads ran.gives;
    adds = ran.adds;
  }

  pub ran_all : (work : WorkTerms) (before now : Outside) (v : View B) → now.heard ≡ before.heard ++ Ok None ∷ [] → LinesTold before.left now.left (Ok None)
      → now.reads ≡ before.reads → now.held ≡ before.held → now.writes ≡ before.writes → LinesRan work (Some AllRead) before now v v
  ran_all work before now v heard told reads held writes = record {
    entries = [];
    answers = no_line work AllRead before now (Ok None) (λ text e. cc) heard refl refl told (all_taken before.left now.left told) reads (same_gained before.held now.held held) writes;
    adds = adds_none v;
  }

  pub ran_fault : (work : WorkTerms) (before now : Outside) (v : View B) → now.heard ≡ before.heard ++ Err unread.Fault ∷ [] → LinesTold before.left now.left (Err unread.Fault)
      → Counts true before.reads now.reads → now.held ≡ before.held → now.writes ≡ before.writes → LinesRan work (Some ReadFault) before now v v
  ran_fault work before now v heard told reads held writes = record {
    entries = [];
    answers = no_line work ReadFault before now (Err unread.Fault) (λ text e. cc) heard refl refl told tt reads (same_gained before.held now.held held) writes;
    adds = adds_none v;
  }

  pub ran_short : (work : WorkTerms) (before now : Outside) (v : View B) → now.heard ≡ before.heard ++ Err unread.OutOfMemory ∷ [] → LinesTold before.left now.left (Err unread.OutOfMemory)
      → now.reads ≡ before.reads → now.held ≡ before.held → now.writes ≡ before.writes → LinesRan work (Some OutOfMemory) before now v v
  ran_short work before now v heard told reads held writes = record {
    entries = [];
    answers = no_line work OutOfMemory before now (Err unread.OutOfMemory) (λ text e. cc) heard (inr refl) refl told tt reads (part_none before.held now.held [] held) writes;
    adds = adds_none v;
  }

  -- the lines ended, and the pass sealed or cancelled
  pub ran_called : (work : WorkTerms) (end : LinesEnd) (before now : Outside) (v u w : View B) → v.number ≡ 0 → LinesRan work (Some end) before now v u
      → Says u (last_call end) Marked w → LinesCalled work end before now v w
  ran_called work end before now v u w opening ran says = record {
    own = ran.entries ++ made (last_call end) Marked;
    read = record { entries = ran.entries; answers = ran.answers; are = refl };
    adds = adds_then v u w ran.entries (made (last_call end) Marked) ran.adds (adds_says u (last_call end) Marked w (ran.adds.same.number ∙ opening) says);
  }

  -- one line, by what its request was answered and what came of the text
  pub line_ran : (work : WorkTerms) (line : List ℕ) (end : Option LinesEnd) (held held' : Option (List ℕ)) (writes writes' : ℕ) (v w : View B) (given : Answer)
      → (ran : Replied work (request_of line) given v w)
      → Gives work line end held held' writes writes' ran.entries → LineRan work line end held held' writes writes' v w
  line_ran work line end held held' writes writes' v w given ran gives = record { entries = ran.entries; gives = gives; adds = ran.adds }

  pub line_answered : (work : WorkTerms) (line : List ℕ) (v w : View B) (given : Answer) (ran : Replied work (request_of line) given v w)
      → IsAnswered work line ran.entries (answer_text work.system.zone_names given)
  line_answered work line v w given ran = record { given = given; replied = ran.replied; said = refl }

  -- without memory for the call there is none
  pub line_lacks : (work : WorkTerms) (line : List ℕ) (held held' : Option (List ℕ)) (writes writes' : ℕ) (v w : View B) → request_of line ≡ request.Report → Adds [] v w
      → held' ≡ held → writes' ≡ writes → LineRan work line (Some OutOfMemory) held held' writes writes' v w
  line_lacks work line held held' writes writes' v w report adds same counts = record { entries = []; gives = (inr (report, refl), same, counts); adds = adds }
