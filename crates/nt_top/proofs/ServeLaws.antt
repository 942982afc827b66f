-- A command that serves, by the results of its parts.
use Rattle.std.proofs.Common.{◌≡◌, inl, inr, ℕ, true, false, List, ◌∷◌, codes, Option, Some, IfSome, Result, Ok, Err, OnOk, IfErr, refl, sym, ap, subst, ◌∙◌}
use Rattle.outside.specs.Causes.{Rose}
use Rattle.outside.specs.Machine.{Machine}
use Rattle.outside.specs.declared.action.Action.{Action}
use Rattle.end_loop.specs.Seen.{Sight}
use Rattle.end_loop.specs.Serving.{Served, ServedUntil}
use Rattle.end_loop.specs.declared.halt.Halt.{Halt}
use Rattle.end_loop.specs.declared.halt.Halt.TheVariants as halts
use Rattle.wire_base.specs.Memory.{UpToMemory}
use Rattle.nt_words.specs.Files.{Shelf, UpToFaults}
use Rattle.nt_words.specs.Roles.{job_of}
use Rattle.nt_words.specs.Setups.{setup_due}
use Rattle.nt_words.specs.declared.job.Job.{Job}
use Rattle.nt_words.specs.declared.job.Job.TheVariants as jobs
use Rattle.nt_words.specs.declared.job.Role.{Role}
use Rattle.nt_words.specs.declared.job.Role.TheVariants.{Member, Logon}
use Rattle.nt_words.specs.declared.job.Service.{Service}
use Rattle.nt_words.specs.declared.options.WordsRefused.{WordsRefused}
use Rattle.nt_words.specs.declared.options.WordsRefused.TheVariants.{BadWords, Memory}
use Rattle.nt_words.specs.declared.files.FilesRefused.{FilesRefused}
use Rattle.nt_words.specs.declared.files.FilesRefused.TheVariants as files
use Rattle.nt_words.specs.declared.setup.Setup.{Setup}
use Rattle.nt_words.specs.declared.setup.Setup.TheVariants as setups
use Rattle.logon_client.specs.declared.outcome.NoAnswerCause.{NoAnswerCause}
use Rattle.logon_client.specs.declared.outcome.NoAnswerCause.TheVariants.{DialFailed, LinkClosed, NoController}
use Rattle.nt_top.specs.declared.exit.Exit.{Exit}
use Rattle.nt_top.specs.declared.exit.Exit.TheVariants as exits
use Rattle.nt_top.specs.Causes.{Comes, IsBadInput, IsBadWords, IsOfForm}
use Rattle.nt_top.specs.Check.{AskedAccepted, AskedRefused}
use Rattle.nt_top.specs.Drill.{AskedDrill}
use Rattle.nt_top.specs.Show.{AskedShown}
use Rattle.nt_top.specs.Refusals.{files_exit, words_exit}
use Rattle.nt_top.specs.Serve.{IsServed, MayServe, ServesTo, halt_exit, service_exit}
use Rattle.nt_top.specs.Logon.{plan_of}
use Rattle.nt_top.specs.LogonExits.{IsAnswered, IsOfClients, LosesLink, Gone, SendFailed, Stopped, TookAll}
use Rattle.nt_top.specs.Service.{IsBadOfFiles, IsOfContents, IsServedBy, IsServiceOfForm, ServiceAsked, ServiceBy, ServiceFollows, ServiceRuns, files_on, uses_port}
use Rattle.nt_top.proofs.JobLaws.{acts_by_words}
use Rattle.nt_top.proofs.LogonLaws.{logon_laws}
use Rattle.nt_top.proofs.StationLaws.{station_exits, station_laws}
use Rattle.nt_top.specs.Station.{station_plan}

halt_serves : {S : Type 0} (machine : Machine S) (file : Option (List ℕ)) (first : List Action) (old : S) (address seed : List ℕ) (boot most : ℕ) (before after : Sight) (halt : Halt) →
    ServedUntil machine file first old address seed boot most before after halt → ServesTo machine file first old address seed boot most before after (halt_exit halt)
halt_serves machine file first old address seed boot most before after halts.PortFault is = is
halt_serves machine file first old address seed boot most before after halts.FileFault is = is
halt_serves machine file first old address seed boot most before after halts.SinkFault is = is
halt_serves machine file first old address seed boot most before after halts.NoMemory is = is
halt_serves machine file first old address seed boot most before after halts.Spent is = is

result_serves : {T S : Type 0} (machine : Machine S) (file : Option (List ℕ)) (first : List Action) (old new : S) (address seed : List ℕ) (boot most : ℕ) (before after : Sight) (r : Result T Halt) →
    OnOk r (Served machine file first old new address seed boot most before after) →
    IfErr r (λ halt. ServedUntil machine file first old address seed boot most before after halt) →
    ServesTo machine file first old address seed boot most before after (service_exit r)
result_serves machine file first old new address seed boot most before after (Ok x) served halted = (new, served)
result_serves machine file first old new address seed boot most before after (Err halt) served halted =
    halt_serves machine file first old address seed boot most before after halt halted

pub service_serves : {T S : Type 0} (machine : Machine S) (file : Option (List ℕ)) (first : List Action) (old new : S) (address seed : List ℕ) (boot most : ℕ) (before after : Sight) (r : Result T Halt) (exit : Exit) →
    exit ≡ service_exit r → OnOk r (Served machine file first old new address seed boot most before after) →
    IfErr r (λ halt. ServedUntil machine file first old address seed boot most before after halt) →
    ServesTo machine file first old address seed boot most before after exit
service_serves machine file first old new address seed boot most before after r exit is served halted =
    subst (λ e. ServesTo machine file first old address seed boot most before after e) (sym is)
    (result_serves machine file first old new address seed boot most before after r served halted)

-- a service is one of equal parts
pub same_service : {S : Type 0} (machine : Machine S) (file named : Option (List ℕ)) (first actions : List Action) (old other : S) (address place seed key : List ℕ) (boot number most events : ℕ) (before after : Sight)
    (exit : Exit) → file ≡ named → first ≡ actions → old ≡ other → address ≡ place → seed ≡ key → boot ≡ number → most ≡ events →
    ServesTo machine file first old address seed boot most before after exit → ServesTo machine named actions other place key number events before after exit
same_service machine file named first actions old other address place seed key boot number most events before after exit f d p q r x y serves =
    subst (λ z. ServesTo machine z actions other place key number events before after exit) f
    (subst (λ z. ServesTo machine file z other place key number events before after exit) d
    (subst (λ z. ServesTo machine file first z place key number events before after exit) p
    (subst (λ z. ServesTo machine file first old z key number events before after exit) q
    (subst (λ z. ServesTo machine file first old address z number events before after exit) r
    (subst (λ z. ServesTo machine file first old address seed z events before after exit) x
    (subst (λ z. ServesTo machine file first old address seed boot z before after exit) y serves))))))

-- what follows the files, by their result
pub follows_ok : (read : Result Setup FilesRefused) (setup : Setup) (before after : Sight) (exit : Exit) →
    read ≡ Ok setup → ServiceBy setup before after exit → ServiceFollows read before after exit
follows_ok read setup before after exit is serves = subst (λ z. ServiceFollows z before after exit) (sym is) serves

pub follows_err : (read : Result Setup FilesRefused) (refused : FilesRefused) (sight : Sight) (exit : Exit) →
    read ≡ Err refused → exit ≡ files_exit refused → ServiceFollows read sight sight exit
follows_err read refused sight exit is due = subst (λ z. ServiceFollows z sight sight exit) (sym is) (due, refl)

-- ---- a command that uses the port isn't asked to check, to show or to drill

not_check : (role : Role) (words : List (List ℕ)) (more : List (List ℕ)) → uses_port role words ≡ true → role ≡ Member → words ≡ codes "check" ∷ more → ⊥
not_check role words more uses member is =
    let e : uses_port Member (codes "check" ∷ more) ≡ true = subst (λ w. uses_port Member w ≡ true) is (subst (λ r. uses_port r words ≡ true) member uses) in cc

not_show : (role : Role) (words : List (List ℕ)) (more : List (List ℕ)) → uses_port role words ≡ true → role ≡ Logon → words ≡ codes "show" ∷ more → ⊥
not_show role words more uses logon is =
    let e : uses_port Logon (codes "show" ∷ more) ≡ true = subst (λ w. uses_port Logon w ≡ true) is (subst (λ r. uses_port r words ≡ true) logon uses) in cc

pub not_accepted : (role : Role) (words : List (List ℕ)) → uses_port role words ≡ true → AskedAccepted role words → ⊥
not_accepted role words uses asked = not_check role words _ uses asked.asks.member asked.asks.words_are

pub not_rejected : (role : Role) (words : List (List ℕ)) → uses_port role words ≡ true → AskedRefused role words → ⊥
not_rejected role words uses asked = not_check role words _ uses asked.asks.member asked.asks.words_are

pub not_shown : (role : Role) (words : List (List ℕ)) → uses_port role words ≡ true → AskedShown role words → ⊥
not_shown role words uses asked = not_show role words _ uses asked.asks.logon asked.asks.words_are

pub not_drilled : (role : Role) (words : List (List ℕ)) → uses_port role words ≡ true → AskedDrill role words → ⊥
not_drilled role words uses asked = absurd (let wrong : true ≡ false = sym uses ∙ acts_by_words role words _ asked.asks in cc)

pub not_input : (role : Role) (words : List (List ℕ)) (number : ℕ) → uses_port role words ≡ true → IsBadInput role words number → ⊥
not_input role words number uses (inl asked) = not_check role words _ uses asked.member asked.words_are
not_input role words number uses (inr asked) = not_show role words _ uses asked.logon asked.words_are

pub not_of_form : (role : Role) (words : List (List ℕ)) → uses_port role words ≡ true → IsOfForm role words → ⊥
not_of_form role words uses (inl (inl asked)) = not_accepted role words uses asked
not_of_form role words uses (inl (inr asked)) = not_rejected role words uses asked
not_of_form role words uses (inr (inl asked)) = not_shown role words uses asked
not_of_form role words uses (inr (inr asked)) = not_drilled role words uses asked

-- ---- the number of words that are refused

come_by : (asked : Result Job WordsRefused) (number : ℕ) (shelf shelf_after : Shelf) (before after : Sight) (exit : Exit) →
    UpToMemory Memory asked (Err (BadWords number)) → ServiceAsked asked shelf shelf_after before after exit → Comes (exits.BadWords number) exit
come_by (Ok (jobs.Service service)) number shelf shelf_after before after exit is runs = absurd (cc)
come_by (Ok (jobs.Command command)) number shelf shelf_after before after exit is runs = absurd runs
come_by (Err refused) number shelf shelf_after before after exit (inl memory) runs = inr (runs.1.0 ∙ ap words_exit memory)
come_by (Err refused) number shelf shelf_after before after exit (inr is) runs =
    let same : refused ≡ BadWords number = cc in inl (runs.1.0 ∙ ap words_exit same)

pub words_come : (role : Role) (words : List (List ℕ)) (number : ℕ) (shelf shelf_after : Shelf) (before after : Sight) (exit : Exit) → uses_port role words ≡ true →
    ServiceRuns role words shelf shelf_after before after exit → IsBadWords role words number → Comes (exits.BadWords number) exit
words_come role words number shelf shelf_after before after exit uses runs bad =
    come_by runs.job number shelf shelf_after before after exit (subst (λ z. UpToMemory Memory runs.job z) bad runs.is) runs.runs

words_is : (refused : WordsRefused) (number : ℕ) → words_exit refused ≡ exits.BadWords number → refused ≡ BadWords number
words_is (BadWords other) number e = let same : other ≡ number = cc in ap (λ n. BadWords n) same
words_is Memory number e = cc

files_no_words : (refused : FilesRefused) (number : ℕ) → files_exit refused ≡ exits.BadWords number → ⊥
files_no_words files.FileFault number e = cc
files_no_words (files.BadTable cause) number e = cc
files_no_words (files.BadInput other) number e = cc
files_no_words files.NoMemory number e = cc

-- an exit that only words and what files hold have
abbrev IsOfInputs : Exit → Type 0
IsOfInputs (exits.BadWords number) = Unit {0}
IsOfInputs (exits.BadTable cause) = Unit {0}
IsOfInputs (exits.BadInput number) = Unit {0}
IsOfInputs _ = ⊥

serves_inputs : {S : Type 0} (machine : Machine S) (file : Option (List ℕ)) (first : List Action) (old : S) (address seed : List ℕ) (boot most : ℕ) (before after : Sight) (exit : Exit) →
    IsOfInputs exit → ServesTo machine file first old address seed boot most before after exit → ⊥
serves_inputs machine file first old address seed boot most before after exits.Done is serves = is
serves_inputs machine file first old address seed boot most before after (exits.Refused cause) is serves = is
serves_inputs machine file first old address seed boot most before after (exits.BadWords number) is serves = serves
serves_inputs machine file first old address seed boot most before after exits.FileFault is serves = is
serves_inputs machine file first old address seed boot most before after (exits.BadTable cause) is serves = serves
serves_inputs machine file first old address seed boot most before after (exits.BadInput number) is serves = serves
serves_inputs machine file first old address seed boot most before after exits.PortFault is serves = is
serves_inputs machine file first old address seed boot most before after exits.SinkFault is serves = is
serves_inputs machine file first old address seed boot most before after exits.NoMemory is serves = is
serves_inputs machine file first old address seed boot most before after (exits.NoAnswer cause) is serves = is
serves_inputs machine file first old address seed boot most before after (exits.BadPeer fault) is serves = is
serves_inputs machine file first old address seed boot most before after exits.Spent is serves = is

may_inputs : {S : Type 0} (machine : Machine S) (file : Option (List ℕ)) (first : List Action) (old : S) (address seed : List ℕ) (boot most : ℕ) (before after : Sight) (exit : Exit) →
    IsOfInputs exit → MayServe machine file first old address seed boot most before after exit → ⊥
may_inputs machine file first old address seed boot most before after exit is (inl left) = subst IsOfInputs left.0 is
may_inputs machine file first old address seed boot most before after exit is (inr serves) = serves_inputs machine file first old address seed boot most before after exit is serves

client_inputs : (exit : Exit) → IsOfInputs exit → IsOfClients exit → ⊥
client_inputs exits.Done is of = is
client_inputs (exits.Refused cause) is of = is
client_inputs (exits.BadWords number) is of = of
client_inputs exits.FileFault is of = is
client_inputs (exits.BadTable cause) is of = of
client_inputs (exits.BadInput number) is of = of
client_inputs exits.PortFault is of = is
client_inputs exits.SinkFault is of = is
client_inputs exits.NoMemory is of = is
client_inputs (exits.NoAnswer cause) is of = is
client_inputs (exits.BadPeer fault) is of = is
client_inputs exits.Spent is of = is

by_inputs : (setup : Setup) (before after : Sight) (exit : Exit) → IsOfInputs exit → ServiceBy setup before after exit → ⊥
by_inputs (setups.Controller job files) before after exit is serves = may_inputs _ _ _ _ _ _ _ _ before after exit is serves
by_inputs (setups.Member job files) before after exit is serves = may_inputs _ _ _ _ _ _ _ _ before after exit is serves
by_inputs (setups.Logon job files) before after exit is ends = client_inputs exit is (logon_laws.exits (plan_of job files) files.seed job.boot before after exit ends)
by_inputs (setups.Station job files) before after exit is ends = client_inputs exit is (station_exits (station_plan job files) files.seed job.boot before after exit ends)

follows_no_words : (read : Result Setup FilesRefused) (before after : Sight) (number : ℕ) → ServiceFollows read before after (exits.BadWords number) → ⊥
follows_no_words (Err refused) before after number left = files_no_words refused number (sym left.0)
follows_no_words (Ok setup) before after number serves = by_inputs setup before after (exits.BadWords number) tt serves

only_by : (asked due : Result Job WordsRefused) (number : ℕ) (shelf shelf_after : Shelf) (before after : Sight) →
    UpToMemory Memory asked due → ServiceAsked asked shelf shelf_after before after (exits.BadWords number) → due ≡ Err (BadWords number)
only_by (Ok (jobs.Command command)) due number shelf shelf_after before after is runs = absurd runs
only_by (Ok (jobs.Service service)) due number shelf shelf_after before after is runs = absurd (follows_no_words runs.setup _ after number runs.follows)
only_by (Err refused) due number shelf shelf_after before after (inl memory) runs =
    let same = words_is refused number (sym runs.1.0) in absurd cc
only_by (Err refused) due number shelf shelf_after before after (inr is) runs =
    let same = words_is refused number (sym runs.1.0) in is ∙ ap (λ z. Err z) same

pub words_only_by : (role : Role) (words : List (List ℕ)) (number : ℕ) (shelf shelf_after : Shelf) (before after : Sight) (exit : Exit) →
    ServiceRuns role words shelf shelf_after before after exit → exit ≡ exits.BadWords number → IsBadWords role words number
words_only_by role words number shelf shelf_after before after exit runs is =
    let asked = subst (λ z. ServiceAsked runs.job shelf shelf_after before after z) is runs.runs in
    only_by runs.job (job_of role words) number shelf shelf_after before after runs.is asked

-- ---- files that are refused

files_come_by : (read due : Result Setup FilesRefused) (refused : FilesRefused) (before after : Sight) (exit : Exit) →
    due ≡ Err refused → UpToFaults read due → (exit ≡ exits.FileFault → ⊥) → ServiceFollows read before after exit → Comes (files_exit refused) exit
files_come_by (Err files.FileFault) due refused before after exit is up file left = absurd (file left.0)
files_come_by (Err files.NoMemory) due refused before after exit is up file left = inr left.0
files_come_by (Err (files.BadTable cause)) due refused before after exit is up file left =
    let same : files.BadTable cause ≡ refused = cc in inl (left.0 ∙ ap files_exit same)
files_come_by (Err (files.BadInput number)) due refused before after exit is up file left =
    let same : files.BadInput number ≡ refused = cc in inl (left.0 ∙ ap files_exit same)
files_come_by (Ok read) due refused before after exit is up file serves = absurd cc

asked_files_come : (asked due : Result Job WordsRefused) (service : Service) (told : List (List ℕ × List ℕ)) (refused : FilesRefused) (shelf shelf_after : Shelf) (before after : Sight) (exit : Exit) →
    UpToMemory Memory asked due → due ≡ Ok (jobs.Service service) → shelf.contents ≡ Some told → setup_due service told ≡ Err refused → (exit ≡ exits.FileFault → ⊥) →
    ServiceAsked asked shelf shelf_after before after exit → Comes (files_exit refused) exit
asked_files_come (Err why) due service told refused shelf shelf_after before after exit (inl memory) is tells of file runs = inr (runs.1.0 ∙ ap words_exit memory)
asked_files_come (Err why) due service told refused shelf shelf_after before after exit (inr other) is tells of file runs = absurd cc
asked_files_come (Ok (jobs.Command command)) due service told refused shelf shelf_after before after exit up is tells of file runs = absurd runs
asked_files_come (Ok (jobs.Service other)) due service told refused shelf shelf_after before after exit up is tells of file runs =
    let same : other ≡ service = cc in
    let there = subst (λ z. IfSome z (λ contents. UpToFaults runs.setup (setup_due other contents))) tells runs.reads.exact in
    let due_is = subst (λ (z : Service). setup_due z told ≡ Err refused) (sym same) of in
    files_come_by runs.setup (setup_due other told) refused _ after exit due_is there file runs.follows

-- files that are refused come to the exit of their refusal, where no read fails
pub files_come : (role : Role) (words : List (List ℕ)) (refused : FilesRefused) (shelf shelf_after : Shelf) (before after : Sight) (exit : Exit) →
    ServiceRuns role words shelf shelf_after before after exit → IsBadOfFiles role words shelf.contents refused → (exit ≡ exits.FileFault → ⊥) → Comes (files_exit refused) exit
files_come role words refused shelf shelf_after before after exit runs bad file =
    asked_files_come runs.job (job_of role words) bad.service bad.told refused shelf shelf_after before after exit runs.is bad.job_is bad.told_is bad.due file runs.runs

contents_inputs : (refused : FilesRefused) → IsOfContents refused → IsOfInputs (files_exit refused)
contents_inputs files.FileFault is = absurd is
contents_inputs files.NoMemory is = absurd is
contents_inputs (files.BadTable cause) is = tt
contents_inputs (files.BadInput number) is = tt

contents_due : (refused : FilesRefused) (due : Result Setup FilesRefused) → IsOfContents refused → UpToFaults (Err refused) due → due ≡ Err refused
contents_due files.FileFault due is up = absurd is
contents_due files.NoMemory due is up = absurd is
contents_due (files.BadTable cause) due is up = up
contents_due (files.BadInput number) due is up = up

-- the refusal of an exit of contents
contents_exit : (other refused : FilesRefused) → IsOfContents refused → files_exit other ≡ files_exit refused → other ≡ refused
contents_exit other files.FileFault is e = absurd is
contents_exit other files.NoMemory is e = absurd is
contents_exit files.FileFault (files.BadTable cause) is e = absurd cc
contents_exit files.NoMemory (files.BadTable cause) is e = absurd cc
contents_exit (files.BadInput number) (files.BadTable cause) is e = absurd cc
contents_exit (files.BadTable other) (files.BadTable cause) is e = let same : other ≡ cause = cc in ap (λ z. files.BadTable z) same
contents_exit files.FileFault (files.BadInput number) is e = absurd cc
contents_exit files.NoMemory (files.BadInput number) is e = absurd cc
contents_exit (files.BadTable cause) (files.BadInput number) is e = absurd cc
contents_exit (files.BadInput other) (files.BadInput number) is e = let same : other ≡ number = cc in ap (λ z. files.BadInput z) same

words_no_contents : (why : WordsRefused) (refused : FilesRefused) → IsOfContents refused → words_exit why ≡ files_exit refused → ⊥
words_no_contents why files.FileFault is e = is
words_no_contents why files.NoMemory is e = is
words_no_contents (BadWords number) (files.BadTable cause) is e = cc
words_no_contents (BadWords number) (files.BadInput other) is e = cc
words_no_contents Memory (files.BadTable cause) is e = cc
words_no_contents Memory (files.BadInput other) is e = cc

follows_only : (read due : Result Setup FilesRefused) (refused : FilesRefused) (before after : Sight) (exit : Exit) →
    IsOfContents refused → exit ≡ files_exit refused → UpToFaults read due → ServiceFollows read before after exit → due ≡ Err refused
follows_only (Err why) due refused before after exit is e up left =
    let same = contents_exit why refused is (sym left.0 ∙ e) in
    contents_due refused due is (subst (λ z. UpToFaults (Err z) due) same up)
follows_only (Ok setup) due refused before after exit is e up serves =
    absurd (by_inputs setup before after exit (subst IsOfInputs (sym e) (contents_inputs refused is)) serves)

asked_only : (role : Role) (words : List (List ℕ)) (asked : Result Job WordsRefused) (told : List (List ℕ × List ℕ)) (refused : FilesRefused) (shelf shelf_after : Shelf) (before after : Sight) (exit : Exit) →
    uses_port role words ≡ true → UpToMemory Memory asked (job_of role words) → shelf.contents ≡ Some told → IsOfContents refused → exit ≡ files_exit refused →
    ServiceAsked asked shelf shelf_after before after exit → IsBadOfFiles role words shelf.contents refused
asked_only role words (Err why) told refused shelf shelf_after before after exit uses up tells is e runs = absurd (words_no_contents why refused is (sym runs.1.0 ∙ e))
asked_only role words (Ok (jobs.Command command)) told refused shelf shelf_after before after exit uses up tells is e runs = absurd runs
asked_only role words (Ok (jobs.Service service)) told refused shelf shelf_after before after exit uses up tells is e runs =
    let there = subst (λ z. IfSome z (λ contents. UpToFaults runs.setup (setup_due service contents))) tells runs.reads.exact in record {
      uses = uses;
      service = service;
      job_is = up;
      told = told;
      told_is = tells;
      due = follows_only runs.setup (setup_due service told) refused _ after exit is e there runs.follows;
    }

-- the exit of what a file holds comes only where files are refused so
pub files_only : (role : Role) (words : List (List ℕ)) (told : List (List ℕ × List ℕ)) (refused : FilesRefused) (shelf shelf_after : Shelf) (before after : Sight) (exit : Exit) →
    uses_port role words ≡ true → ServiceRuns role words shelf shelf_after before after exit → shelf.contents ≡ Some told → IsOfContents refused → exit ≡ files_exit refused →
    IsBadOfFiles role words shelf.contents refused
files_only role words told refused shelf shelf_after before after exit uses runs tells is e =
    asked_only role words runs.job told refused shelf shelf_after before after exit uses runs.is tells is e runs.runs

-- ---- completeness

service_served : {S : Type 0} (machine : Machine S) (file : Option (List ℕ)) (first : List Action) (old : S) (address seed : List ℕ) (boot most : ℕ) (before after : Sight) (exit : Exit) →
    (exit ≡ exits.FileFault → ⊥) → (exit ≡ exits.PortFault → ⊥) → (exit ≡ exits.SinkFault → ⊥) → ServesTo machine file first old address seed boot most before after exit → IsServed exit
service_served machine file first old address seed boot most before after exits.Done fault port sink serves = _
service_served machine file first old address seed boot most before after exits.Spent fault port sink serves = _
service_served machine file first old address seed boot most before after exits.NoMemory fault port sink serves = _
service_served machine file first old address seed boot most before after exits.PortFault fault port sink serves = absurd (port refl)
service_served machine file first old address seed boot most before after exits.SinkFault fault port sink serves = absurd (sink refl)
service_served machine file first old address seed boot most before after (exits.Refused cause) fault port sink serves = absurd serves
service_served machine file first old address seed boot most before after (exits.BadWords number) fault port sink serves = absurd serves
service_served machine file first old address seed boot most before after exits.FileFault fault port sink serves = absurd (fault refl)
service_served machine file first old address seed boot most before after (exits.BadTable cause) fault port sink serves = absurd serves
service_served machine file first old address seed boot most before after (exits.BadInput number) fault port sink serves = absurd serves
service_served machine file first old address seed boot most before after (exits.NoAnswer cause) fault port sink serves = absurd serves
service_served machine file first old address seed boot most before after (exits.BadPeer peer) fault port sink serves = absurd serves

may_served : {S : Type 0} (machine : Machine S) (file : Option (List ℕ)) (first : List Action) (old : S) (address seed : List ℕ) (boot most : ℕ) (before after : Sight) (exit : Exit) →
    (exit ≡ exits.FileFault → ⊥) → (exit ≡ exits.PortFault → ⊥) → (exit ≡ exits.SinkFault → ⊥) → MayServe machine file first old address seed boot most before after exit → IsServed exit
may_served machine file first old address seed boot most before after exit fault port sink (inl left) = subst IsServed (sym left.0) tt
may_served machine file first old address seed boot most before after exit fault port sink (inr serves) = service_served machine file first old address seed boot most before after exit fault port sink serves

client_answered : (exit : Exit) → IsOfClients exit → (exit ≡ exits.PortFault → ⊥) → (exit ≡ exits.SinkFault → ⊥) → IsAnswered exit
client_answered exits.Done is port sink = _
client_answered (exits.Refused cause) is port sink = _
client_answered (exits.NoAnswer cause) is port sink = _
client_answered (exits.BadPeer fault) is port sink = _
client_answered exits.Spent is port sink = _
client_answered exits.NoMemory is port sink = _
client_answered exits.PortFault is port sink = absurd (port refl)
client_answered exits.SinkFault is port sink = absurd (sink refl)
client_answered exits.FileFault is port sink = absurd is
client_answered (exits.BadWords number) is port sink = absurd is
client_answered (exits.BadTable cause) is port sink = absurd is
client_answered (exits.BadInput number) is port sink = absurd is

-- want of memory is one of both
memory_served : (setup : Setup) (exit : Exit) → exit ≡ exits.NoMemory → IsServedBy setup exit
memory_served (setups.Controller job files) exit is = subst IsServed (sym is) tt
memory_served (setups.Member job files) exit is = subst IsServed (sym is) tt
memory_served (setups.Logon job files) exit is = subst IsAnswered (sym is) tt
memory_served (setups.Station job files) exit is = subst IsAnswered (sym is) tt

by_served : (setup : Setup) (before after : Sight) (exit : Exit) → (exit ≡ exits.FileFault → ⊥) → (exit ≡ exits.PortFault → ⊥) → (exit ≡ exits.SinkFault → ⊥) → ServiceBy setup before after exit → IsServedBy setup exit
by_served (setups.Controller job files) before after exit fault port sink serves = may_served _ _ _ _ _ _ _ _ before after exit fault port sink serves
by_served (setups.Member job files) before after exit fault port sink serves = may_served _ _ _ _ _ _ _ _ before after exit fault port sink serves
by_served (setups.Logon job files) before after exit fault port sink ends =
    client_answered exit (logon_laws.exits (plan_of job files) files.seed job.boot before after exit ends) port sink
by_served (setups.Station job files) before after exit fault port sink ends =
    client_answered exit (station_exits (station_plan job files) files.seed job.boot before after exit ends) port sink

files_served : (read due : Result Setup FilesRefused) (setup : Setup) (before after : Sight) (exit : Exit) →
    due ≡ Ok setup → UpToFaults read due → (exit ≡ exits.FileFault → ⊥) → (exit ≡ exits.PortFault → ⊥) → (exit ≡ exits.SinkFault → ⊥) →
    ServiceFollows read before after exit → IsServedBy setup exit
files_served (Err files.FileFault) due setup before after exit is up file port sink left = absurd (file left.0)
files_served (Err files.NoMemory) due setup before after exit is up file port sink left = memory_served setup exit left.0
files_served (Err (files.BadTable cause)) due setup before after exit is up file port sink left = absurd cc
files_served (Err (files.BadInput number)) due setup before after exit is up file port sink left = absurd cc
files_served (Ok read) due setup before after exit is up file port sink serves =
    let same : read ≡ setup = cc in subst (λ z. IsServedBy z exit) same (by_served read before after exit file port sink serves)

asked_served : (asked due : Result Job WordsRefused) (service : Service) (told : List (List ℕ × List ℕ)) (setup : Setup) (shelf shelf_after : Shelf) (before after : Sight) (exit : Exit) →
    UpToMemory Memory asked due → due ≡ Ok (jobs.Service service) → shelf.contents ≡ Some told → setup_due service told ≡ Ok setup →
    (exit ≡ exits.FileFault → ⊥) → (exit ≡ exits.PortFault → ⊥) → (exit ≡ exits.SinkFault → ⊥) →
    ServiceAsked asked shelf shelf_after before after exit → IsServedBy setup exit
asked_served (Err refused) due service told setup shelf shelf_after before after exit (inl memory) is tells of file port sink runs = memory_served setup exit (runs.1.0 ∙ ap words_exit memory)
asked_served (Err refused) due service told setup shelf shelf_after before after exit (inr other) is tells of file port sink runs = absurd cc
asked_served (Ok (jobs.Command command)) due service told setup shelf shelf_after before after exit up is tells of file port sink runs = absurd runs
asked_served (Ok (jobs.Service other)) due service told setup shelf shelf_after before after exit up is tells of file port sink runs =
    let same : other ≡ service = cc in
    let there = subst (λ z. IfSome z (λ contents. UpToFaults runs.setup (setup_due other contents))) tells runs.reads.exact in
    let due_is = subst (λ (z : Service). setup_due z told ≡ Ok setup) (sym same) of in
    files_served runs.setup (setup_due other told) setup _ after exit due_is there file port sink runs.follows

pub serve_done : (role : Role) (words : List (List ℕ)) (shelf shelf_after : Shelf) (before after : Sight) (exit : Exit) →
    ServiceRuns role words shelf shelf_after before after exit → (form : IsServiceOfForm role words shelf.contents) →
    (exit ≡ exits.FileFault → ⊥) → (exit ≡ exits.PortFault → ⊥) → (exit ≡ exits.SinkFault → ⊥) → IsServedBy form.setup exit
serve_done role words shelf shelf_after before after exit runs form file port sink =
    asked_served runs.job (job_of role words) form.service form.told form.setup shelf shelf_after before after exit runs.is form.job_is form.told_is form.setup_is file port sink runs.runs

-- ---- a client or a station that has no answer

-- what an exit without an answer shows
abbrev ShowsCause : NoAnswerCause → Sight → Sight → Type 0
ShowsCause DialFailed before after = Rose before.link_faults after.link_faults
ShowsCause LinkClosed before after = LosesLink before after
ShowsCause NoController before after = Unit {0}

by_cause : (setup : Setup) (cause : NoAnswerCause) (before after : Sight) → ServiceBy setup before after (exits.NoAnswer cause) → ShowsCause cause before after
by_cause (setups.Logon job files) DialFailed before after ends = (logon_laws.dial (plan_of job files) files.seed job.boot before after _ ends refl).rose
by_cause (setups.Logon job files) LinkClosed before after ends = logon_laws.closed (plan_of job files) files.seed job.boot before after _ ends refl
by_cause (setups.Logon job files) NoController before after ends = tt
by_cause (setups.Station job files) DialFailed before after ends = (station_laws.dial (station_plan job files) files.seed job.boot before after _ ends refl).rose
by_cause (setups.Station job files) LinkClosed before after ends = station_laws.closed (station_plan job files) files.seed job.boot before after _ ends refl
by_cause (setups.Station job files) NoController before after ends = tt
by_cause (setups.Controller job files) cause before after (inl left) = absurd (let is = left.0 in cc)
by_cause (setups.Controller job files) cause before after (inr serves) = absurd serves
by_cause (setups.Member job files) cause before after (inl left) = absurd (let is = left.0 in cc)
by_cause (setups.Member job files) cause before after (inr serves) = absurd serves

follows_cause : (setup : Result Setup FilesRefused) (cause : NoAnswerCause) (before after : Sight) → ServiceFollows setup before after (exits.NoAnswer cause) → ShowsCause cause before after
follows_cause (Err files.FileFault) cause before after left = absurd (let is = left.0 in cc)
follows_cause (Err files.NoMemory) cause before after left = absurd (let is = left.0 in cc)
follows_cause (Err (files.BadTable why)) cause before after left = absurd (let is = left.0 in cc)
follows_cause (Err (files.BadInput number)) cause before after left = absurd (let is = left.0 in cc)
follows_cause (Ok setup) cause before after ends = by_cause setup cause before after ends

-- what was read before shows nothing else
cause_since : (cause : NoAnswerCause) (before after : Sight) (shelf : Shelf) → ShowsCause cause (record before { files = files_on shelf }) after → ShowsCause cause before after
cause_since DialFailed before after shelf shows = shows
cause_since NoController before after shelf shows = tt
cause_since LinkClosed before after shelf (Gone happened told gone) = Gone happened told gone
cause_since LinkClosed before after shelf (SendFailed happened told sends rose) = SendFailed happened told sends rose
cause_since LinkClosed before after shelf (Stopped happened told stops) = Stopped happened told stops
cause_since LinkClosed before after shelf (TookAll happened told all) = TookAll happened told all

asked_cause : (job : Result Job WordsRefused) (cause : NoAnswerCause) (shelf shelf_after : Shelf) (before after : Sight) → ServiceAsked job shelf shelf_after before after (exits.NoAnswer cause) → ShowsCause cause before after
asked_cause (Err Memory) cause shelf shelf_after before after runs = absurd (let is = runs.1.0 in cc)
asked_cause (Err (BadWords number)) cause shelf shelf_after before after runs = absurd (let is = runs.1.0 in cc)
asked_cause (Ok (jobs.Command command)) cause shelf shelf_after before after runs = absurd runs
asked_cause (Ok (jobs.Service service)) cause shelf shelf_after before after runs = cause_since cause before after runs.shelf_read (follows_cause runs.setup cause _ after runs.follows)

service_cause : (role : Role) (words : List (List ℕ)) (cause : NoAnswerCause) (shelf shelf_after : Shelf) (before after : Sight) →
    ServiceRuns role words shelf shelf_after before after (exits.NoAnswer cause) → ShowsCause cause before after
service_cause role words cause shelf shelf_after before after runs = asked_cause runs.job cause shelf shelf_after before after runs.runs

-- a dial that failed, and a link that was lost
pub dial_fault : (role : Role) (words : List (List ℕ)) (shelf shelf_after : Shelf) (before after : Sight) (exit : Exit) →
    ServiceRuns role words shelf shelf_after before after exit → exit ≡ exits.NoAnswer DialFailed → Rose before.link_faults after.link_faults
dial_fault role words shelf shelf_after before after exit runs is =
    service_cause role words DialFailed shelf shelf_after before after (subst (λ (e : Exit). ServiceRuns role words shelf shelf_after before after e) is runs)

pub link_lost : (role : Role) (words : List (List ℕ)) (shelf shelf_after : Shelf) (before after : Sight) (exit : Exit) →
    ServiceRuns role words shelf shelf_after before after exit → exit ≡ exits.NoAnswer LinkClosed → LosesLink before after
link_lost role words shelf shelf_after before after exit runs is =
    service_cause role words LinkClosed shelf shelf_after before after (subst (λ (e : Exit). ServiceRuns role words shelf shelf_after before after e) is runs)
