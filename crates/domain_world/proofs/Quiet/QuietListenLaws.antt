-- The links of a controller through each step: nothing stays open on those that members dialled, where what comes on
-- them are whole units. It serves `runs_stand_so`.
use Rattle.std.proofs.Common.{◌≡◌, ℕ, Bool, true, false, List, [], ◌∷◌, ◌++◌, Option, Some, None, Ok, Err, if◌then◌else◌, refl, sym, ap, subst, ◌∙◌}
use Rattle.std.specs.List.{AllByRecursion}
use Rattle.std.proofs.lemmas.Bool.{eqb-true}
use Rattle.wire_base.specs.Maps.{has_key, lookup, put, same_number, take_out}
use Rattle.outside.specs.declared.event.Event.{Event}
use Rattle.outside.specs.declared.event.Event.TheVariants as event
use Rattle.rpc_units.specs.Stream.{Cut, cut_stream}
use Rattle.end_links.specs.Links.{LinkState}
use Rattle.end_links.specs.Serving.{ServedPart, served_cut}
use Rattle.domain_controller.specs.Machine.{Desk, controller_server}
use Rattle.domain_controller.specs.State.{State as ControllerState}
use Rattle.domain_controller.specs.Step.{LinkMap, StepPart, after_units, by_event, first_desk, keep_link, step_of}
use Rattle.domain_controller.specs.declared.state.Running.{Running}
use Rattle.domain_controller.specs.declared.state.Talk.{Talk}
use Rattle.step_notes.specs.HeardWhole.{LeavesNothingOpen, NothingOpen}
use Rattle.domain_controller.proofs.WalkLaws.{PartSteps, event_comes, fresh_link, step_comes}
use Rattle.step_notes.proofs.Controllers.HeardLaws.{controllers_hear}
use Rattle.domain_world.proofs.Quiet.QuietTurnLaws.{IsOneUnit}

-- ---- entries of a map

abbrev pub Entries : {V : Type 0} → (ℕ → V → Type 0) → List (ℕ × V) → Type 0
Entries {V} P entries = AllByRecursion (λ (entry : ℕ × V). P entry.0 entry.1) entries

module _ {V : Type 0} (P : ℕ → V → Type 0) where
  out_if : (hit : Bool) (entry : ℕ × V) (entries rest : List (ℕ × V)) → P entry.0 entry.1 → Entries P entries → Entries P rest → Entries P (if hit then entries else entry ∷ rest)
  out_if true entry entries rest one all more = all
  out_if false entry entries rest one all more = (one, more)

  pub entries_out : (key : ℕ) (entries : List (ℕ × V)) → Entries P entries → Entries P (take_out same_number key entries)
  entries_out key [] all = tt
  entries_out key (entry ∷ entries) all =
      out_if (has_key same_number key entry) entry entries (take_out same_number key entries) all.0 all.1 (entries_out key entries all.1)

  put_if : (hit : Bool) (key : ℕ) (value : V) (entry : ℕ × V) (entries rest : List (ℕ × V)) → P key value → P entry.0 entry.1 → Entries P entries → Entries P rest →
      Entries P (if hit then (key, value) ∷ entries else entry ∷ rest)
  put_if true key value entry entries rest new one all more = (new, all)
  put_if false key value entry entries rest new one all more = (one, more)

  pub entries_put : (key : ℕ) (value : V) (entries : List (ℕ × V)) → P key value → Entries P entries → Entries P (put same_number key value entries)
  entries_put key value [] new all = (new, tt)
  entries_put key value (entry ∷ entries) new all =
      put_if (has_key same_number key entry) key value entry entries (put same_number key value entries) new all.0 all.1 (entries_put key value entries new all.1)

  found_if : (hit : Bool) (key : ℕ) (entry : ℕ × V) (found : Option V) (value : V) → has_key same_number key entry ≡ hit → (if hit then Some entry.1 else found) ≡ Some value →
      P entry.0 entry.1 → (found ≡ Some value → P key value) → P key value
  found_if true key entry found value is there one later =
      let here : entry.1 ≡ value = cc in subst (λ (v : V). P key v) here (subst (λ (n : ℕ). P n entry.1) (sym (eqb-true key entry.0 is)) one)
  found_if false key entry found value is there one later = later there

  pub entries_found : (key : ℕ) (entries : List (ℕ × V)) (value : V) → lookup same_number key entries ≡ Some value → Entries P entries → P key value
  entries_found key [] value there all = absurd cc
  entries_found key (entry ∷ entries) value there all =
      found_if (has_key same_number key entry) key entry (lookup same_number key entries) value refl there all.0 (λ later. entries_found key entries value later all.1)

pub entries_so : {V : Type 0} (P Q : ℕ → V → Type 0) → ((key : ℕ) (value : V) → P key value → Q key value) → (entries : List (ℕ × V)) → Entries P entries → Entries Q entries
entries_so P Q so [] all = tt
entries_so P Q so (entry ∷ entries) all = (so entry.0 entry.1 all.0, entries_so P Q so entries all.1)

-- ---- the links of a controller

-- the link is one of the world's; and nothing is open on it, where it is a member's
pub record ListensWell (Own Made : ℕ → Type 0) (number : ℕ) (link : LinkState Talk) : Type 0 where
  pub made : Made number
  pub rest : Own number → link.rest ≡ []
  pub joiner : Own number → link.talk.joiner ≡ None

abbrev pub LinksWell : (ℕ → Type 0) → (ℕ → Type 0) → LinkMap → Type 0
LinksWell Own Made links = Entries (ListensWell Own Made) links

abbrev pub WellUnlessStopped : (ℕ → Type 0) → (ℕ → Type 0) → Option Running → Type 0
WellUnlessStopped Own Made None = Unit {0}
WellUnlessStopped Own Made (Some running) = LinksWell Own Made running.links

abbrev PartWell : (ℕ → Type 0) → (ℕ → Type 0) → StepPart → Type 0
PartWell Own Made (Err why) = Unit {0}
PartWell Own Made (Ok part) = LinksWell Own Made part.value.1

-- what must be known of an event: a link that opens is the world's, and what comes on a member's is a whole unit
abbrev pub OpensWell : (ℕ → Type 0) → (ℕ → Type 0) → Event → Type 0
OpensWell Own Made (event.Opened link) = Made link
OpensWell Own Made (event.Bytes link piece) = Own link → IsOneUnit piece
OpensWell Own Made _ = Unit {0}

module _ (Own Made : ℕ → Type 0) where
  kept_well : (said : Option Talk) (rest : List ℕ) (number : ℕ) (links : LinkMap) → Made number → (Own number → rest ≡ []) → (Own number → NothingOpen said) → LinksWell Own Made links →
      LinksWell Own Made (keep_link said rest number links)
  kept_well None rest number links made none open_none well = well
  kept_well (Some talk) rest number links made none open_none well =
      entries_put (ListensWell Own Made) number (record { rest = rest; talk = talk }) links (record { made = made; rest = none; joiner = open_none }) well

  units_well : (part : ServedPart Desk Talk) (rest : List ℕ) (number : ℕ) (links : LinkMap) → Made number → (Own number → rest ≡ []) → (Own number → LeavesNothingOpen part) →
      LinksWell Own Made links → PartWell Own Made (after_units part rest number links)
  units_well (Err why) rest number links made none open_none well = tt
  units_well (Ok part) rest number links made none open_none well = kept_well part.value.1 rest number links made none open_none well

  part_well : (part : StepPart) (s : ControllerState) (left : List (List ℕ)) → PartWell Own Made part →
      PartSteps (λ stepped. WellUnlessStopped Own Made stepped.state.running) s left part
  part_well (Err why) s left well = tt
  part_well (Ok part) s left well = well

  pub listens_on : (s : ControllerState) (what : Event) (now : ℕ) (left : List (List ℕ)) → OpensWell Own Made what → WellUnlessStopped Own Made s.running →
      WellUnlessStopped Own Made (step_of s what now left).state.running
  listens_on s what now left opens well =
      step_comes (λ stepped. WellUnlessStopped Own Made stepped.state.running) s what now left (λ ends. well) (λ running runs.
      let d : Desk = first_desk s.table running in
      let links : LinkMap = running.links in
      let all : LinksWell Own Made links = subst (WellUnlessStopped Own Made) runs well in
      let without : (number : ℕ) → LinksWell Own Made (take_out same_number number links) = λ number. entries_out (ListensWell Own Made) number links all in
      part_well (by_event what s.name now d links left) s left
      (event_comes (λ (happens : Event) (part : StepPart). OpensWell Own Made happens → PartWell Own Made part) s.name now d links left (record {
        full = λ number is made. without number;
        opens = λ number is made.
            entries_put (ListensWell Own Made) number fresh_link (take_out same_number number links) (record { made = made; rest = λ own. refl; joiner = λ own. refl }) (without number);
        serves = λ number piece link is one.
            let cut : Cut = cut_stream (link.rest ++ piece) in
            let listens : ListensWell Own Made number link = entries_found (ListensWell Own Made) number links link is all in
            let bytes : Own number → link.rest ++ piece ≡ piece = λ own. ap (λ (rest : List ℕ). rest ++ piece) (listens.rest own) in
            units_well (served_cut (controller_server s.name now number) cut d link.talk left) cut.rest number (take_out same_number number links) listens.made
            (λ own. let unit : IsOneUnit piece = one own in
            ap (λ (all : List ℕ). (cut_stream all).rest) (bytes own) ∙ controllers_hear.rest piece unit.frames unit.unit unit.heard)
            (λ own. let unit : IsOneUnit piece = one own in
            subst (λ (all : List ℕ). LeavesNothingOpen (served_cut (controller_server s.name now number) (cut_stream all) d link.talk left)) (sym (bytes own))
            (controllers_hear.after s.name now number piece unit.frames unit.unit d link.talk left unit.heard (listens.joiner own)))
            (without number);
        drops = λ number piece is one. without number;
        closed = λ number made. without number;
        dialled = λ number made. all;
        failed = λ made. all;
        stop = λ made. all;
      }) what opens))
