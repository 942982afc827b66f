-- Which files a service writes, for `run`: those of its reading are none, and those of its run are into the file that
-- it names.
use Rattle.std.proofs.Common.{◌≡◌, inl, inr, ℕ, List, [], ◌∷◌, ◌++◌, Option, Some, None, Result, Ok, Err, IfOk, refl, sym, subst}
use Rattle.std.specs.List.{flat_map}
use Rattle.outside.specs.Machine.{Machine}
use Rattle.outside.specs.declared.action.Action.{Action}
use Rattle.outside.specs.declared.action.Action.TheVariants.{Keep, Send, Dial, Close, Told, Judged}
use Rattle.outside.specs.declared.event.Happening.{Happening}
use Rattle.outside.proofs.TellingLaws.{Appends-trans, Appends-nothing}
use Rattle.end_loop.specs.Acts.{Loses, writes_for, writes_of}
use Rattle.end_loop.specs.Begun.{Begun, BegunUntil}
use Rattle.end_loop.specs.Runs.{Halts, RanInto, RanOut, RunState, Step, writes_in}
use Rattle.end_loop.specs.Seen.{Shows, Sight}
use Rattle.end_loop.specs.Serving.{ServedUntil}
use Rattle.end_loop.specs.Writing.{FilesTold, Write}
use Rattle.end_loop.specs.declared.halt.Halt.{Halt}
use Rattle.end_loop.specs.declared.halt.Halt.TheVariants as halts
use Rattle.logon_client.specs.Machine.{client_machine}
use Rattle.logon_client.specs.declared.plan.ClientPlan.{ClientPlan}
use Rattle.nt_words.specs.Files.{Shelf}
use Rattle.nt_words.specs.Setups.{service_in}
use Rattle.nt_words.specs.declared.files.FilesRefused.{FilesRefused}
use Rattle.nt_words.specs.declared.job.Service.{Service}
use Rattle.nt_words.specs.declared.setup.Setup.{Setup}
use Rattle.nt_words.specs.declared.setup.Setup.TheVariants as setups
use Rattle.interactive_station.specs.Machine.{station_machine}
use Rattle.interactive_station.specs.declared.plan.StationPlan.{StationPlan}
use Rattle.nt_top.specs.Logon.{LogonEnds}
use Rattle.nt_top.specs.Station.{StationEnds}
use Rattle.nt_top.specs.Serve.{MayServe, ServesTo}
use Rattle.nt_top.specs.Service.{ServiceBy, ServiceFollows, ServiceReads, files_on}
use Rattle.nt_top.specs.Writes.{AreInto, WritesInto, file_of_service}
use Rattle.nt_top.specs.declared.exit.Exit.{Exit}
use Rattle.nt_top.specs.declared.exit.Exit.TheVariants as exits

into_both : (file : Option (List ℕ)) (writes more : List Write) → AreInto file writes → AreInto file more → AreInto file (writes ++ more)
into_both file [] more here later = later
into_both file (write ∷ writes) more here later = (here.0, into_both file writes more here.1 later)

into_text : (file : Option (List ℕ)) (text : List ℕ) → AreInto file (writes_of file text)
into_text None text = tt
into_text (Some name) text = (refl, tt)

into_action : (file : Option (List ℕ)) (action : Action) → AreInto file (writes_for file action)
into_action file (Keep text) = into_text file text
into_action file (Send link bytes) = tt
into_action file (Dial peer) = tt
into_action file (Close link cause) = tt
into_action file (Told link outcome) = tt
into_action file (Judged judged) = tt

into_actions : (file : Option (List ℕ)) (actions : List Action) → AreInto file (flat_map (writes_for file) actions)
into_actions file [] = tt
into_actions file (action ∷ actions) = into_both file (writes_for file action) (flat_map (writes_for file) actions) (into_action file action) (into_actions file actions)

into_steps : (file : Option (List ℕ)) (steps : List Step) → AreInto file (writes_in file steps)
into_steps file [] = tt
into_steps file (step ∷ steps) = into_both file (flat_map (writes_for file) step.actions) (writes_in file steps) (into_actions file step.actions) (into_steps file steps)

none_into : (file : Option (List ℕ)) (lost : List Write) → lost ≡ [] → AreInto file lost
none_into file lost none = subst (AreInto file) (sym none) tt

into_lost : (halt : Halt) (file : Option (List ℕ)) (rest : List Action) (lost : List Write) → Loses halt file rest lost → AreInto file lost
into_lost halts.FileFault file rest lost loses = subst (AreInto file) (sym loses.lost_is) (loses.name_is, tt)
into_lost halts.PortFault file rest lost loses = none_into file lost loses
into_lost halts.SinkFault file rest lost loses = none_into file lost loses
into_lost halts.NoMemory file rest lost loses = none_into file lost loses
into_lost halts.Spent file rest lost loses = none_into file lost loses

-- ---- between two moments

abbrev Into : Option (List ℕ) → Sight → Sight → Type 0
Into file before after = WritesInto file before.files.writes after.files.writes

shown : (file : Option (List ℕ)) (before after : Sight) (happened : List Happening) (given : List ℕ) (drawn : List (List ℕ)) (put : List ℕ) (writes : List Write) →
    Shows before after happened given drawn put writes → AreInto file writes → Into file before after
shown file before after happened given drawn put writes shows into = record { writes = writes; told = shows.files.told; into = into }

still : (file : Option (List ℕ)) (sight : Sight) → Into file sight sight
still file sight = record { writes = []; told = Appends-nothing sight.files.writes; into = tt }

both : (file : Option (List ℕ)) (first second third : Option (List Write)) → WritesInto file first second → WritesInto file second third → WritesInto file first third
both file first second third here later = record {
  writes = here.writes ++ later.writes;
  told = Appends-trans first second third here.writes later.writes here.told later.told;
  into = into_both file here.writes later.writes here.into later.into;
}

-- ---- runs

run_into : {S : Type 0} (machine : Machine S) (file : Option (List ℕ)) (start : RunState S) (most : ℕ) (before after : Sight) (halt : Halt) →
    RanInto machine file start most before after halt → Into file before after
run_into machine file start most before after halt ran =
    both file before.files.writes ran.middle.files.writes after.files.writes
    (shown file before ran.middle _ _ _ _ _ ran.ran.shows (into_steps file ran.ran.steps))
    (shown file ran.middle after _ _ _ _ _ ran.shows
    (into_both file (flat_map (writes_for file) ran.step.actions) ran.lost (into_actions file ran.step.actions) (into_lost halt file ran.begins.rest ran.lost ran.begins.loses)))

run_out : {S : Type 0} (machine : Machine S) (file : Option (List ℕ)) (start : RunState S) (last : S) (most : ℕ) (before after : Sight) →
    RanOut machine file start last most before after → Into file before after
run_out machine file start last most before after ran =
    both file before.files.writes ran.middle.files.writes after.files.writes
    (shown file before ran.middle _ _ _ _ _ ran.ran.shows (into_steps file ran.ran.steps)) (shown file ran.middle after _ _ _ _ _ ran.shows tt)

run_halts : {S : Type 0} (machine : Machine S) (file : Option (List ℕ)) (start : RunState S) (most : ℕ) (before after : Sight) (halt : Halt) →
    Halts machine file start most before after halt → Into file before after
run_halts machine file start most before after halts.PortFault ran = shown file before after _ _ _ _ _ ran.ran.shows (into_steps file ran.ran.steps)
run_halts machine file start most before after halts.FileFault ran = run_into machine file start most before after halts.FileFault ran
run_halts machine file start most before after halts.SinkFault ran = run_into machine file start most before after halts.SinkFault ran
run_halts machine file start most before after halts.NoMemory (inl ran) = shown file before after _ _ _ _ _ ran.ran.shows (into_steps file ran.ran.steps)
run_halts machine file start most before after halts.NoMemory (inr ran) = run_into machine file start most before after halts.NoMemory ran
run_halts machine file start most before after halts.Spent ran = run_into machine file start most before after halts.Spent ran

-- ---- runs that begin with actions of their own

begun_until : {S : Type 0} (machine : Machine S) (file : Option (List ℕ)) (first : List Action) (old : S) (most : ℕ) (before after : Sight) (halt : Halt) →
    BegunUntil machine file first old most before after halt → Into file before after
begun_until machine file first old most before after halt (inl cut) =
    shown file before after _ _ _ _ _ cut.1.shows (into_both file (flat_map (writes_for file) cut.1.done) cut.1.lost (into_actions file cut.1.done) (into_lost halt file cut.1.rest cut.1.lost cut.1.loses))
begun_until machine file first old most before after halt (inr half) =
    both file before.files.writes half.middle.files.writes after.files.writes (shown file before half.middle _ _ _ _ _ half.shows (into_actions file first))
    (run_halts machine file _ most half.middle after halt half.run)

begun_out : {S : Type 0} (machine : Machine S) (file : Option (List ℕ)) (first : List Action) (old new : S) (most : ℕ) (before after : Sight) →
    Begun machine file first old new most before after → Into file before after
begun_out machine file first old new most before after begun =
    both file before.files.writes begun.middle.files.writes after.files.writes (shown file before begun.middle _ _ _ _ _ begun.shows (into_actions file first))
    (run_out machine file _ new most begun.middle after begun.run)

-- ---- an end that is served

-- the files stood so while the port was opened
opened_into : (file : Option (List ℕ)) (before opened after : Sight) → opened.files ≡ before.files → Into file opened after → Into file before after
opened_into file before opened after same into = subst (λ (f : FilesTold). WritesInto file f.writes after.files.writes) same into

served_until : {S : Type 0} (machine : Machine S) (file : Option (List ℕ)) (first : List Action) (old : S) (address seed : List ℕ) (boot most : ℕ) (before after : Sight) (halt : Halt) →
    ServedUntil machine file first old address seed boot most before after halt → Into file before after
served_until machine file first old address seed boot most before after halt (inl failed) = opened_into file before after after failed.1.files (still file after)
served_until machine file first old address seed boot most before after halt (inr half) =
    opened_into file before half.opened after half.opens.files (begun_until machine file first old most half.opened after halt half.run)

serves_to : {S : Type 0} (machine : Machine S) (file : Option (List ℕ)) (first : List Action) (old : S) (address seed : List ℕ) (boot most : ℕ) (before after : Sight) (exit : Exit) →
    ServesTo machine file first old address seed boot most before after exit → Into file before after
serves_to machine file first old address seed boot most before after exits.Done serves =
    opened_into file before serves.1.opened after serves.1.opens.files (begun_out machine file first old serves.0 most serves.1.opened after serves.1.run)
serves_to machine file first old address seed boot most before after exits.PortFault serves = served_until machine file first old address seed boot most before after halts.PortFault serves
serves_to machine file first old address seed boot most before after exits.FileFault serves = served_until machine file first old address seed boot most before after halts.FileFault serves
serves_to machine file first old address seed boot most before after exits.SinkFault serves = served_until machine file first old address seed boot most before after halts.SinkFault serves
serves_to machine file first old address seed boot most before after exits.NoMemory serves = served_until machine file first old address seed boot most before after halts.NoMemory serves
serves_to machine file first old address seed boot most before after exits.Spent serves = served_until machine file first old address seed boot most before after halts.Spent serves
serves_to machine file first old address seed boot most before after (exits.Refused cause) serves = absurd serves
serves_to machine file first old address seed boot most before after (exits.BadWords number) serves = absurd serves
serves_to machine file first old address seed boot most before after (exits.BadTable cause) serves = absurd serves
serves_to machine file first old address seed boot most before after (exits.BadInput number) serves = absurd serves
serves_to machine file first old address seed boot most before after (exits.NoAnswer cause) serves = absurd serves
serves_to machine file first old address seed boot most before after (exits.BadPeer fault) serves = absurd serves

left_into : (file : Option (List ℕ)) (before after : Sight) → after ≡ before → Into file before after
left_into file before after same = subst (λ (s : Sight). Into file before s) (sym same) (still file before)

may_serve : {S : Type 0} (machine : Machine S) (file : Option (List ℕ)) (first : List Action) (old : S) (address seed : List ℕ) (boot most : ℕ) (before after : Sight) (exit : Exit) →
    MayServe machine file first old address seed boot most before after exit → Into file before after
may_serve machine file first old address seed boot most before after exit (inl left) = left_into file before after left.1
may_serve machine file first old address seed boot most before after exit (inr serves) = serves_to machine file first old address seed boot most before after exit serves

-- ---- a client, and a station

logon_into : (plan : ClientPlan) (seed : List ℕ) (boot : ℕ) (before after : Sight) (exit : Exit) → LogonEnds plan seed boot before after exit → Into None before after
logon_into plan seed boot before after exit logon =
    opened_into None before logon.opened after logon.opens.files
    (elim logon.ends [
      | inl none ↦ left_into None logon.opened after none.1
      | inr begun ↦ elim begun [
        | inl breaks ↦ begun_until client_machine None _ _ _ logon.opened after breaks.halt breaks.run
        | inr ends ↦ subst (λ (s : Sight). Into None logon.opened s) (sym ends.only) (begun_out client_machine None _ _ ends.last _ logon.opened ends.ended ends.run)
      ]
    ])

station_into : (plan : StationPlan) (seed : List ℕ) (boot : ℕ) (before after : Sight) (exit : Exit) → StationEnds plan seed boot before after exit → Into None before after
station_into plan seed boot before after exit station =
    opened_into None before station.opened after station.opens.files
    (elim station.ends [
      | inl none ↦ left_into None station.opened after none.1
      | inr begun ↦ elim begun [
        | inl breaks ↦ begun_until station_machine None _ _ _ station.opened after breaks.halt breaks.run
        | inr ends ↦ subst (λ (s : Sight). Into None station.opened s) (sym ends.only) (begun_out station_machine None _ _ ends.last _ station.opened ends.ended ends.run)
      ]
    ])

-- ---- a service

by_into : (setup : Setup) (before after : Sight) (exit : Exit) → ServiceBy setup before after exit → Into (file_of_service (service_in setup)) before after
by_into (setups.Controller job files) before after exit serves = may_serve _ _ _ _ _ _ _ _ before after exit serves
by_into (setups.Member job files) before after exit serves = may_serve _ _ _ _ _ _ _ _ before after exit serves
by_into (setups.Logon job files) before after exit ends = logon_into _ _ _ before after exit ends
by_into (setups.Station job files) before after exit ends = station_into _ _ _ before after exit ends

follows_into : (read : Result Setup FilesRefused) (service : Service) (before after : Sight) (exit : Exit) → IfOk read (λ s. service_in s ≡ service) → ServiceFollows read before after exit →
    Into (file_of_service service) before after
follows_into (Err refused) service before after exit of left = left_into (file_of_service service) before after left.1
follows_into (Ok setup) service before after exit of serves = subst (λ (s : Service). Into (file_of_service s) before after) of (by_into setup before after exit serves)

pub read_into : (service : Service) (shelf shelf_after : Shelf) (before after : Sight) (exit : Exit) → ServiceReads service shelf shelf_after before after exit →
    WritesInto (file_of_service service) shelf.writes after.files.writes
read_into service shelf shelf_after before after exit reads =
    both (file_of_service service) shelf.writes reads.shelf_read.writes after.files.writes (record { writes = []; told = reads.reads.writes; into = tt })
    (follows_into reads.setup service (record before { files = files_on reads.shelf_read }) after exit reads.is_of_service reads.follows)
