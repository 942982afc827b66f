-- How performing actions goes on, and where it is cut short.
use Rattle.std.proofs.Common.{◌≡◌, ◌≤◌, ℕ, Bool, true, false, List, [], ◌∷◌, ◌++◌, ◌+◌, ◌&&◌, length, Option, Some, None, Result, Ok, Err, OnOk, OnErr, IfErr, is_ok, is_err, refl, sym, ap, subst, ◌∙◌, arith, append-nil, append_assoc, length-append, take, drop, get_or, ◌<◌}
use Rattle.std.specs.List.{flat_map}
use Rattle.std.proofs.lemmas.Grind.{flat_map-append}
use Rattle.std.proofs.lemmas.List.{take-append-drop, take_more}
use Rattle.std.proofs.lemmas.List.Folds.{list_all-append, list_any-append}
use Rattle.outside.specs.Telling.{Appends, AppendsFront}
use Rattle.std.specs.Result.{result_ok}
use Rattle.outside.specs.Causes.{Rose, RisesWhere}
use Rattle.outside.specs.Stories.{fails_at_links, is_link_failure}
use Rattle.outside.proofs.TellingLaws.{Appends-trans, Appends-nothing, AppendsFront-part}
use Rattle.outside.proofs.CauseLaws.{RisesWhere-none, RisesWhere-trans, RisesWhere-call}
use Rattle.outside.proofs.StoryLaws.{RisesWhere-sent, RisesWhere-dialled}
use Rattle.outside.specs.declared.event.Event.{Event}
use Rattle.outside.specs.declared.event.Happening.{Happening}
use Rattle.outside.specs.declared.event.Happening.TheVariants as happening
use Rattle.outside.specs.Machine.{Machine}
use Rattle.outside.specs.declared.action.CloseCause.{CloseCause}
use Rattle.outside.specs.declared.action.Action.{Action}
use Rattle.outside.specs.declared.action.Action.TheVariants.{Keep, Send, Dial, Close, Told, Judged}
use Rattle.end_loop.specs.declared.halt.Halt.{Halt}
use Rattle.end_loop.specs.declared.halt.Halt.TheVariants.{PortFault, FileFault, SinkFault, NoMemory, Spent}
use Rattle.end_loop.specs.Writing.{FilesTold, Write, WritesFiles}
use Rattle.end_loop.proofs.WritingLaws.{Writes-none, Writes-trans, Writes-as}
use Rattle.end_loop.specs.Acts.{Did, FailsToKeep, FailsToWrite, Loses, writes_for, writes_of, puts, Does, SendsOn, Performs, LoopState, Performed, CutShort, failed_link, made_event, made_events, has_link, most_made, most_made_by, is_made, are_made, next_line}

-- ---- failures at links

-- the count rose where one of two stories has a failure
pub Rises-append : (one others : List Happening) (first second third : ℕ) → RisesWhere (fails_at_links one) first second →
    RisesWhere (fails_at_links others) second third → RisesWhere (fails_at_links (one ++ others)) first third
Rises-append one others first second third here later =
    subst (λ (b : Bool). RisesWhere b first third) (sym (list_any-append is_link_failure one others))
    (RisesWhere-trans (fails_at_links one) (fails_at_links others) first second third here later)

-- a send and a dial, by what they answered
pub send_rises : {T E : Type 0} (link : ℕ) (bytes : List ℕ) (r : Result T E) (before now : ℕ) → OnErr r (Rose before now) → before ≤ now →
    RisesWhere (fails_at_links (happening.Sent link bytes (is_err r) ∷ [])) before now
send_rises link bytes r before now cause more = RisesWhere-sent link bytes (is_err r) before now (RisesWhere-call r before now cause more)

pub dial_rises : {E : Type 0} (peer : List ℕ) (r : Result ℕ E) (before now : ℕ) → OnErr r (Rose before now) → before ≤ now →
    RisesWhere (fails_at_links (happening.Dialled peer (result_ok r) ∷ [])) before now
dial_rises peer (Ok link) before now cause more = RisesWhere-dialled peer (Some link) before now (more, λ never. absurd (cc))
dial_rises peer (Err e) before now cause more = RisesWhere-dialled peer None before now (more, λ _. cause)

pub ruleset failing = (send_rises, dial_rises, RisesWhere-none)

-- ---- performing

joined_links : (failed : List ℕ) (now later hs : List Happening) → hs ≡ now ++ later →
    failed ++ flat_map failed_link hs ≡ (failed ++ flat_map failed_link now) ++ flat_map failed_link later
joined_links failed now later hs e =
    ap (λ (h : List Happening). failed ++ flat_map failed_link h) e
    ∙ ap (λ (l : List ℕ). failed ++ l) (flat_map-append failed_link now later)
    ∙ sym (append_assoc failed (flat_map failed_link now) (flat_map failed_link later))

pub Performs-append : (failed : List ℕ) (xs ys : List Action) (hs ks : List Happening) → Performs failed xs hs →
    Performs (failed ++ flat_map failed_link hs) ys ks → Performs failed (xs ++ ys) (hs ++ ks)
Performs-append failed [] ys hs ks p q =
    let At : List Happening → Type 0 = λ h. Performs (failed ++ flat_map failed_link h) ys ks in
    let here : Performs (failed ++ []) ys ks = subst At p q in
    let plain : Performs failed ys ks = subst (λ (l : List ℕ). Performs l ys ks) (append-nil failed) here in
    subst (λ (h : List Happening). Performs failed ys (h ++ ks)) (sym p) plain
Performs-append failed (x ∷ xs) ys hs ks p q =
    let now = p.0 in
    let later = p.1 in
    let links = joined_links failed now later hs p.3 in (
      now,
      later ++ ks,
      p.2,
      ap (λ (h : List Happening). h ++ ks) p.3 ∙ append_assoc now later ks,
      Performs-append (failed ++ flat_map failed_link now) xs ys later ks p.4 (subst (λ (l : List ℕ). Performs l ys ks) links q),
    )

pub Performed-trans : (line : Action → List ℕ) (file : Option (List ℕ)) (xs ys : List Action) (a b c : LoopState) → Performed line file xs a b → Performed line file ys b c → Performed line file (xs ++ ys) a c
Performed-trans line file xs ys a b c p q = record {
  happened = p.happened ++ q.happened;
  performs = Performs-append a.failed xs ys p.happened q.happened p.performs (subst (λ (l : List ℕ). Performs l ys q.happened) p.failed q.performs);
  story = Appends-trans a.story b.story c.story p.happened q.happened p.story q.story;
  faulted = Rises-append p.happened q.happened a.link_faults b.link_faults c.link_faults p.faulted q.faulted;
  failed = q.failed ∙ ap (λ (l : List ℕ). l ++ flat_map failed_link q.happened) p.failed ∙ sym (joined_links a.failed p.happened q.happened _ refl);
  queue = q.queue ∙ ap (λ (l : List Event). l ++ made_events q.happened) p.queue ∙ append_assoc a.queue (made_events p.happened) (made_events q.happened)
      ∙ ap (λ (l : List Event). a.queue ++ l) (sym (flat_map-append made_event p.happened q.happened));
  taken = subst (λ (l : List ℕ). Appends a.taken c.taken l) (sym (flat_map-append line xs ys)) (Appends-trans a.taken b.taken c.taken (flat_map line xs) (flat_map line ys) p.taken q.taken);
  files = Writes-as a.files c.files _ _ (sym (flat_map-append (writes_for file) xs ys)) (Writes-trans a.files b.files c.files _ _ p.files q.files);
}

pub CutShort-after : (line : Action → List ℕ) (file : Option (List ℕ)) (halt : Halt) (xs ys : List Action) (a b c : LoopState) → Performed line file xs a b → CutShort line file halt ys b c → CutShort line file halt (xs ++ ys) a c
CutShort-after line file halt xs ys a b c p q = record {
  done = xs ++ q.done;
  rest = q.rest;
  all = append_assoc xs q.done q.rest ∙ ap (λ (l : List Action). xs ++ l) q.all;
  happened = p.happened ++ q.happened;
  performs = Performs-append a.failed xs q.done p.happened q.happened p.performs (subst (λ (l : List ℕ). Performs l q.done q.happened) p.failed q.performs);
  story = Appends-trans a.story b.story c.story p.happened q.happened p.story q.story;
  faulted = Rises-append p.happened q.happened a.link_faults b.link_faults c.link_faults p.faulted q.faulted;
  part = q.part;
  more = q.more;
  front = q.front;
  taken = subst (λ (l : List ℕ). Appends a.taken c.taken l)
      (sym (append_assoc (flat_map line xs) (flat_map line q.done) q.part) ∙ ap (λ (l : List ℕ). l ++ q.part) (sym (flat_map-append line xs q.done)))
      (Appends-trans a.taken b.taken c.taken (flat_map line xs) (flat_map line q.done ++ q.part) p.taken q.taken);
  lost = q.lost;
  loses = q.loses;
  files = Writes-as a.files c.files _ _
      (sym (append_assoc (flat_map (writes_for file) xs) (flat_map (writes_for file) q.done) q.lost) ∙ ap (λ (l : List Write). l ++ q.lost) (sym (flat_map-append (writes_for file) xs q.done)))
      (Writes-trans a.files b.files c.files _ _ p.files q.files);
}

next_front : (line : Action → List ℕ) (rest ys : List Action) (part more : List ℕ) → part ++ more ≡ next_line line rest →
    (later : List ℕ) × (part ++ later ≡ next_line line (rest ++ ys))
next_front line [] ys [] more e = (next_line line ys, refl)
next_front line [] ys (x ∷ part) more e = absurd (cc)
next_front line (r ∷ rest) ys part more e = (more, e)

loses_more : (halt : Halt) (file : Option (List ℕ)) (rest ys : List Action) (lost : List Write) → Loses halt file rest lost → Loses halt file (rest ++ ys) lost
loses_more FileFault file rest ys lost loses =
    record { name = loses.name; name_is = loses.name_is; text = loses.text; later = loses.later ++ ys; next = ap (λ (l : List Action). l ++ ys) loses.next; lost_is = loses.lost_is }
loses_more PortFault file rest ys lost loses = loses
loses_more SinkFault file rest ys lost loses = loses
loses_more NoMemory file rest ys lost loses = loses
loses_more Spent file rest ys lost loses = loses

-- an exit at which no write failed
abbrev pub IsNoFault : Halt → Type 0
IsNoFault FileFault = ⊥
IsNoFault _ = Unit {0}

pub none_lost : (halt : Halt) (file : Option (List ℕ)) (rest : List Action) → IsNoFault halt → Loses halt file rest []
none_lost FileFault file rest other = absurd other
none_lost PortFault file rest other = refl
none_lost SinkFault file rest other = refl
none_lost NoMemory file rest other = refl
none_lost Spent file rest other = refl

pub no_fault : (halt : Halt) → (halt ≡ FileFault → ⊥) → IsNoFault halt
no_fault FileFault other = other refl
no_fault PortFault other = tt
no_fault SinkFault other = tt
no_fault NoMemory other = tt
no_fault Spent other = tt

-- actions after those that were cut short weren't begun
pub CutShort-more : (line : Action → List ℕ) (file : Option (List ℕ)) (halt : Halt) (xs ys : List Action) (a b : LoopState) → CutShort line file halt xs a b → CutShort line file halt (xs ++ ys) a b
CutShort-more line file halt xs ys a b q = let next = next_front line q.rest ys q.part q.more q.front in record {
  done = q.done;
  rest = q.rest ++ ys;
  all = sym (append_assoc q.done q.rest ys) ∙ ap (λ (l : List Action). l ++ ys) q.all;
  happened = q.happened;
  performs = q.performs;
  story = q.story;
  faulted = q.faulted;
  part = q.part;
  more = next.0;
  front = next.1;
  taken = q.taken;
  lost = q.lost;
  loses = loses_more halt file q.rest ys q.lost q.loses;
  files = q.files;
}

-- ---- what waits afterwards

does_makes : (failed : List ℕ) (x : Action) (now : List Happening) → Does failed x now → length (made_events now) ≤ most_made x
does_makes failed (Keep bytes) now d = rw d (omega arith)
does_makes failed (Send link bytes) now d = sends_makes (has_link failed link) link bytes now d
  where
    sends_makes : (known : Bool) (link : ℕ) (bytes : List ℕ) (now : List Happening) → SendsOn known link bytes now → length (made_events now) ≤ 1
    sends_makes true link bytes now e = rw e (omega arith)
    sends_makes false link bytes now d = sent_makes link bytes now d.0 d.1
      where
        sent_makes : (link : ℕ) (bytes : List ℕ) (now : List Happening) (fails : Bool) → now ≡ happening.Sent link bytes fails ∷ [] → length (made_events now) ≤ 1
        sent_makes link bytes now true e = rw e (omega arith)
        sent_makes link bytes now false e = rw e (omega arith)
does_makes failed (Dial peer) now d = dial_makes peer now d.0 d.1
  where
    dial_makes : (peer : List ℕ) (now : List Happening) (link : Option ℕ) → now ≡ happening.Dialled peer link ∷ [] → length (made_events now) ≤ 1
    dial_makes peer now (Some link) e = rw e (omega arith)
    dial_makes peer now None e = rw e (omega arith)
does_makes failed (Close link cause) now d = rw d (omega arith)
does_makes failed (Told link outcome) now d = rw d (omega arith)
does_makes failed (Judged judged) now d = rw d (omega arith)

pub performs_makes : (failed : List ℕ) (xs : List Action) (hs : List Happening) → Performs failed xs hs → length (made_events hs) ≤ most_made_by xs
performs_makes failed [] hs p = rw p (omega arith)
performs_makes failed (x ∷ xs) hs p =
    let one = does_makes failed x p.0 p.2 in
    let others = performs_makes (failed ++ flat_map failed_link p.0) xs p.1 p.4 in
    let joins : made_events hs ≡ made_events p.0 ++ made_events p.1 = ap made_events p.3 ∙ flat_map-append made_event p.0 p.1 in
    omega (arith, ap length joins, length-append (made_events p.0) (made_events p.1))

made_is_made : (h : Happening) → are_made (made_event h) ≡ true
made_is_made (happening.Listened address) = refl
made_is_made (happening.Given what want) = refl
made_is_made (happening.Sent link bytes true) = refl
made_is_made (happening.Sent link bytes false) = refl
made_is_made (happening.Dialled peer (Some link)) = refl
made_is_made (happening.Dialled peer None) = refl
made_is_made (happening.Shut link) = refl

both_made : (xs ys : List Event) → are_made xs ≡ true → are_made ys ≡ true → are_made (xs ++ ys) ≡ true
both_made xs ys p q = list_all-append is_made xs ys ∙ ap (λ (b : Bool). b && are_made ys) p ∙ q

pub all_made : (queue : List Event) (hs : List Happening) → are_made queue ≡ true → are_made (queue ++ made_events hs) ≡ true
all_made queue hs p = both_made queue (made_events hs) p (events_made hs)
  where
    events_made : (hs : List Happening) → are_made (made_events hs) ≡ true
    events_made [] = refl
    events_made (h ∷ hs) = both_made (made_event h) (made_events hs) (made_is_made h) (events_made hs)

-- ---- one action

Performed-one : (line : Action → List ℕ) (file : Option (List ℕ)) (x : Action) (a b : LoopState) (hs : List Happening) → Does a.failed x hs → Appends a.story b.story hs → RisesWhere (fails_at_links hs) a.link_faults b.link_faults →
    b.failed ≡ a.failed ++ flat_map failed_link hs → b.queue ≡ a.queue ++ made_events hs → Appends a.taken b.taken (line x) → WritesFiles a.files b.files (writes_for file x) → Performed line file (x ∷ []) a b
Performed-one line file x a b hs does told rises links events taken writes = record {
  happened = hs;
  performs = (hs, [], does, sym (append-nil hs), refl);
  story = told;
  faulted = rises;
  failed = links;
  queue = events;
  taken = subst (λ (l : List ℕ). Appends a.taken b.taken l) (sym (append-nil (line x))) taken;
  files = Writes-as a.files b.files _ _ (sym (append-nil (writes_for file x))) writes;
}

-- an action at the port, which puts no line
pub did_ok : {T E : Type 0} (line : Action → List ℕ) (file : Option (List ℕ)) (x y : Action) (failed failed2 : List ℕ) (queue queue2 : List Event) (story story2 : Option (List Happening)) (faults faults2 : ℕ) (taken : Option (List ℕ)) (files : FilesTold) (r : Result T E) →
    x ≡ y → line y ≡ [] → writes_for file y ≡ [] → Did y failed failed2 queue queue2 story story2 faults faults2 (is_ok r) →
    OnOk r (Performed line file (x ∷ []) (record { failed = failed; queue = queue; story = story; link_faults = faults; taken = taken; files = files }) (record { failed = failed2; queue = queue2; story = story2; link_faults = faults2; taken = taken; files = files }))
did_ok line file x y failed failed2 queue queue2 story story2 faults faults2 taken files (Ok v) e none silent did =
    subst (λ (a : Action). Performed line file (a ∷ []) (record { failed = failed; queue = queue; story = story; link_faults = faults; taken = taken; files = files }) (record { failed = failed2; queue = queue2; story = story2; link_faults = faults2; taken = taken; files = files })) (sym e)
    (Performed-one line file y _ _ did.happened did.does did.told did.faulted (did.links refl) (did.events refl) (subst (λ (l : List ℕ). Appends taken taken l) (sym none) (Appends-nothing taken)) (Writes-as files files _ _ (sym silent) (Writes-none files)))
did_ok line file x y failed failed2 queue queue2 story story2 faults faults2 taken files (Err v) e none silent did = tt

pub did_err : {T : Type 0} (line : Action → List ℕ) (file : Option (List ℕ)) (x y : Action) (failed failed2 : List ℕ) (queue queue2 : List Event) (story story2 : Option (List Happening)) (faults faults2 : ℕ) (taken : Option (List ℕ)) (files : FilesTold) (r : Result T Halt) →
    x ≡ y → line y ≡ [] → writes_for file y ≡ [] → IfErr r (λ halt. halt ≡ NoMemory) → Did y failed failed2 queue queue2 story story2 faults faults2 (is_ok r) →
    IfErr r (λ halt. CutShort line file halt (x ∷ []) (record { failed = failed; queue = queue; story = story; link_faults = faults; taken = taken; files = files }) (record { failed = failed2; queue = queue2; story = story2; link_faults = faults2; taken = taken; files = files }))
did_err line file x y failed failed2 queue queue2 story story2 faults faults2 taken files (Ok v) e none silent kind did = tt
did_err line file x y failed failed2 queue queue2 story story2 faults faults2 taken files (Err halt) e none silent kind did =
    subst (λ (a : Action). CutShort line file halt (a ∷ []) (record { failed = failed; queue = queue; story = story; link_faults = faults; taken = taken; files = files }) (record { failed = failed2; queue = queue2; story = story2; link_faults = faults2; taken = taken; files = files })) (sym e)
    (record {
      done = y ∷ [];
      rest = [];
      all = refl;
      happened = did.happened;
      performs = (did.happened, [], did.does, sym (append-nil did.happened), refl);
      story = did.told;
      faulted = did.faulted;
      part = [];
      more = [];
      front = refl;
      taken = subst (λ (l : List ℕ). Appends taken taken ((l ++ []) ++ [])) (sym none) (Appends-nothing taken);
      lost = [];
      loses = subst (λ (h : Halt). Loses h file [] []) (sym kind) refl;
      files = Writes-as files files _ _ (ap (λ (l : List Write). (l ++ []) ++ []) (sym silent)) (Writes-none files);
    })

pub closed_ok : (line : Action → List ℕ) (file : Option (List ℕ)) (x : Action) (link : ℕ) (cause : CloseCause) (failed : List ℕ) (queue : List Event) (story story2 : Option (List Happening)) (faults faults2 : ℕ) (taken : Option (List ℕ)) (files : FilesTold) →
    x ≡ Close link cause → line (Close link cause) ≡ [] → Appends story story2 (happening.Shut link ∷ []) → faults2 ≡ faults →
    Performed line file (x ∷ []) (record { failed = failed; queue = queue; story = story; link_faults = faults; taken = taken; files = files }) (record { failed = failed; queue = queue; story = story2; link_faults = faults2; taken = taken; files = files })
closed_ok line file x link cause failed queue story story2 faults faults2 taken files e none told same =
    let rises : RisesWhere (fails_at_links (happening.Shut link ∷ [])) faults faults2 = subst (λ (n : ℕ). RisesWhere false faults n) (sym same) (RisesWhere-none faults) in
    let did : Did (Close link cause) failed failed queue queue story story2 faults faults2 true = record { happened = happening.Shut link ∷ []; does = refl; told = told; faulted = rises; links = λ _. sym (append-nil failed); events = λ _. sym (append-nil queue) } in
    did_ok {T = ℕ} {E = ℕ} line file x (Close link cause) failed failed queue queue story story2 faults faults2 taken files (Ok 0) e none refl did

-- a text that is kept, by what is written
pub kept_ok : {T E : Type 0} (line : Action → List ℕ) (file : Option (List ℕ)) (x : Action) (text : List ℕ) (failed : List ℕ) (queue : List Event) (story : Option (List Happening)) (faults : ℕ) (taken : Option (List ℕ)) (files files2 : FilesTold) (r : Result T E) →
    x ≡ Keep text → line (Keep text) ≡ [] → OnOk r (WritesFiles files files2 (writes_of file text)) →
    OnOk r (Performed line file (x ∷ []) (record { failed = failed; queue = queue; story = story; link_faults = faults; taken = taken; files = files }) (record { failed = failed; queue = queue; story = story; link_faults = faults; taken = taken; files = files2 }))
kept_ok line file x text failed queue story faults taken files files2 (Ok v) e none writes =
    subst (λ (a : Action). Performed line file (a ∷ []) (record { failed = failed; queue = queue; story = story; link_faults = faults; taken = taken; files = files }) (record { failed = failed; queue = queue; story = story; link_faults = faults; taken = taken; files = files2 })) (sym e)
    (Performed-one line file (Keep text) _ _ [] refl (Appends-nothing story) (RisesWhere-none faults) (sym (append-nil failed)) (sym (append-nil queue))
    (subst (λ (l : List ℕ). Appends taken taken l) (sym none) (Appends-nothing taken)) writes)
kept_ok line file x text failed queue story faults taken files files2 (Err v) e none writes = tt

pub kept_err : {T : Type 0} (line : Action → List ℕ) (file : Option (List ℕ)) (x : Action) (text : List ℕ) (failed : List ℕ) (queue : List Event) (story : Option (List Happening)) (faults : ℕ) (taken : Option (List ℕ)) (files files2 : FilesTold) (r : Result T Halt) →
    x ≡ Keep text → IfErr r (λ halt. halt ≡ FileFault) → OnErr r (FailsToKeep file text files files2) →
    IfErr r (λ halt. CutShort line file halt (x ∷ []) (record { failed = failed; queue = queue; story = story; link_faults = faults; taken = taken; files = files }) (record { failed = failed; queue = queue; story = story; link_faults = faults; taken = taken; files = files2 }))
kept_err line file x text failed queue story faults taken files files2 (Ok v) e kind fails = tt
kept_err line file x text failed queue story faults taken files files2 (Err halt) e kind fails =
    let loses : FailsToWrite file (x ∷ []) ((fails.name, text, true) ∷ []) =
    record { name = fails.name; name_is = fails.name_is; text = text; later = []; next = ap (λ (a : Action). a ∷ []) e; lost_is = refl } in
    record {
      done = [];
      rest = x ∷ [];
      all = refl;
      happened = [];
      performs = refl;
      story = Appends-nothing story;
      faulted = RisesWhere-none faults;
      part = [];
      more = line x;
      front = refl;
      taken = Appends-nothing taken;
      lost = (fails.name, text, true) ∷ [];
      loses = subst (λ (h : Halt). Loses h file (x ∷ []) ((fails.name, text, true) ∷ [])) (sym kind) loses;
      files = fails.writes;
    }

-- whether an action puts a line
abbrev pub says : Action → Bool
says (Told link outcome) = true
says (Judged judged) = true
says _ = false

-- an action that puts its line
said_does : (x : Action) (failed : List ℕ) → says x ≡ true → Does failed x []
said_does (Keep bytes) failed e = absurd (cc)
said_does (Send link bytes) failed e = absurd (cc)
said_does (Dial peer) failed e = absurd (cc)
said_does (Close link cause) failed e = absurd (cc)
said_does (Told link outcome) failed e = refl
said_does (Judged judged) failed e = refl

said_line : {S : Type 0} (machine : Machine S) (x : Action) → says x ≡ true → puts machine x ≡ machine.line x
said_line machine (Keep bytes) e = absurd (cc)
said_line machine (Send link bytes) e = absurd (cc)
said_line machine (Dial peer) e = absurd (cc)
said_line machine (Close link cause) e = absurd (cc)
said_line machine (Told link outcome) e = refl
said_line machine (Judged judged) e = refl

said_silent : (file : Option (List ℕ)) (x : Action) → says x ≡ true → writes_for file x ≡ []
said_silent file (Keep bytes) e = absurd (cc)
said_silent file (Send link bytes) e = absurd (cc)
said_silent file (Dial peer) e = absurd (cc)
said_silent file (Close link cause) e = absurd (cc)
said_silent file (Told link outcome) e = refl
said_silent file (Judged judged) e = refl

pub said_ok : {T E S : Type 0} (machine : Machine S) (file : Option (List ℕ)) (x : Action) (failed : List ℕ) (queue : List Event) (story : Option (List Happening)) (faults : ℕ) (taken taken2 : Option (List ℕ)) (files : FilesTold) (r : Result T E) → says x ≡ true →
    OnOk r (Appends taken taken2 (machine.line x)) → OnOk r (Performed (puts machine) file (x ∷ []) (record { failed = failed; queue = queue; story = story; link_faults = faults; taken = taken; files = files }) (record { failed = failed; queue = queue; story = story; link_faults = faults; taken = taken2; files = files }))
said_ok machine file x failed queue story faults taken taken2 files (Ok v) e put =
    Performed-one (puts machine) file x _ _ [] (said_does x failed e) (Appends-nothing story) (RisesWhere-none faults) (sym (append-nil failed)) (sym (append-nil queue)) (subst (λ (l : List ℕ). Appends taken taken2 l) (sym (said_line machine x e)) put)
    (Writes-as files files _ _ (sym (said_silent file x e)) (Writes-none files))
said_ok machine file x failed queue story faults taken taken2 files (Err v) e put = tt

said_cut : {S : Type 0} (machine : Machine S) (file : Option (List ℕ)) (halt : Halt) (x : Action) (failed : List ℕ) (queue : List Event) (story : Option (List Happening)) (faults : ℕ) (taken taken2 : Option (List ℕ)) (files : FilesTold) → IsNoFault halt → says x ≡ true →
    AppendsFront taken taken2 (machine.line x) → CutShort (puts machine) file halt (x ∷ []) (record { failed = failed; queue = queue; story = story; link_faults = faults; taken = taken; files = files }) (record { failed = failed; queue = queue; story = story; link_faults = faults; taken = taken2; files = files })
said_cut machine file halt x failed queue story faults taken taken2 files other e put =
    let part = AppendsFront-part taken taken2 (puts machine x) (subst (λ (l : List ℕ). AppendsFront taken taken2 l) (sym (said_line machine x e)) put) in
    record {
      done = [];
      rest = x ∷ [];
      all = refl;
      happened = [];
      performs = refl;
      story = Appends-nothing story;
      faulted = RisesWhere-none faults;
      part = part.part;
      more = part.more;
      front = part.all;
      taken = part.told;
      lost = [];
      loses = none_lost halt file (x ∷ []) other;
      files = Writes-none files;
    }

pub said_err : {T S : Type 0} (machine : Machine S) (file : Option (List ℕ)) (x : Action) (failed : List ℕ) (queue : List Event) (story : Option (List Happening)) (faults : ℕ) (taken taken2 : Option (List ℕ)) (files : FilesTold) (r : Result T Halt) → says x ≡ true → (r ≡ Err FileFault → ⊥) →
    OnErr r (AppendsFront taken taken2 (machine.line x)) → IfErr r (λ halt. CutShort (puts machine) file halt (x ∷ []) (record { failed = failed; queue = queue; story = story; link_faults = faults; taken = taken; files = files }) (record { failed = failed; queue = queue; story = story; link_faults = faults; taken = taken2; files = files }))
said_err machine file x failed queue story faults taken taken2 files (Ok v) e other put = tt
said_err machine file x failed queue story faults taken taken2 files (Err halt) e other put =
    said_cut machine file halt x failed queue story faults taken taken2 files (no_fault halt (λ is. other (ap Err is))) e put

-- ---- a loop over actions

front_and : (xs : List Action) (i : ℕ) (x : Action) → i < length xs → x ≡ get_or xs i x → take i xs ++ x ∷ [] ≡ take (i + 1) xs
front_and xs i x below is = ap (λ (a : Action). take i xs ++ a ∷ []) is ∙ sym (take_more xs i x below)

pub more_performed : (line : Action → List ℕ) (file : Option (List ℕ)) (xs : List Action) (i : ℕ) (x : Action) (a b c : LoopState) → i < length xs → x ≡ get_or xs i x →
    Performed line file (take i xs) a b → Performed line file (x ∷ []) b c → Performed line file (take (i + 1) xs) a c
more_performed line file xs i x a b c below is p q =
    subst (λ (l : List Action). Performed line file l a c) (front_and xs i x below is) (Performed-trans line file (take i xs) (x ∷ []) a b c p q)

pub cut_performed : (line : Action → List ℕ) (file : Option (List ℕ)) (halt : Halt) (xs : List Action) (i : ℕ) (x : Action) (a b c : LoopState) → i < length xs → x ≡ get_or xs i x →
    Performed line file (take i xs) a b → CutShort line file halt (x ∷ []) b c → CutShort line file halt xs a c
cut_performed line file halt xs i x a b c below is p q =
    let cut = CutShort-more line file halt (take i xs ++ x ∷ []) (drop (i + 1) xs) a c (CutShort-after line file halt (take i xs) (x ∷ []) a b c p q) in
    subst (λ (l : List Action). CutShort line file halt l a c) (ap (λ (l : List Action). l ++ drop (i + 1) xs) (front_and xs i x below is) ∙ take-append-drop (i + 1) xs) cut
