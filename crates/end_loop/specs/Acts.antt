-- What happens at the port while actions are performed, what of it is stepped later, and which files are written (this
-- project's own choice).
use Rattle.std.specs.Prelude.{◌≡◌, ℕ, Bool, true, false, ◌==◌, List, [], ◌∷◌, ◌++◌, ◌+◌, Option, Some, None, IsTrue}
use Rattle.std.specs.List.{flat_map, list_any, list_all}
use Rattle.outside.specs.Causes.{RisesWhere}
use Rattle.outside.specs.Stories.{fails_at_links}
use Rattle.outside.specs.Telling.{Appends}
use Rattle.outside.specs.declared.event.Event.{Event}
use Rattle.outside.specs.declared.event.Event.TheVariants as event
use Rattle.outside.specs.declared.event.Happening.{Happening}
use Rattle.outside.specs.declared.event.Happening.TheVariants as happening
use Rattle.outside.specs.Machine.{Machine}
use Rattle.end_loop.specs.declared.halt.Halt.{Halt}
use Rattle.end_loop.specs.declared.halt.Halt.TheVariants.{FileFault, SinkFault, NoMemory}
use Rattle.outside.specs.declared.action.Action.{Action}
use Rattle.outside.specs.declared.action.Action.TheVariants.{Keep, Send, Dial, Close, Told, Judged}
use Rattle.end_loop.specs.Writing.{FilesTold, Write, WritesFiles}

-- whether the link is among these
abbrev pub has_link : List ℕ → ℕ → Bool
has_link links link = list_any (λ (other : ℕ). other == link) links

-- the link of a send that failed
abbrev pub failed_link : Happening → List ℕ
failed_link (happening.Sent link bytes true) = link ∷ []
failed_link _ = []

-- the event that a dial makes, by the link that it gave
abbrev pub dial_event : Option ℕ → Event
dial_event (Some link) = event.Dialled link
dial_event None = event.DialFailed

-- the event that a failed send or a dial makes
abbrev pub made_event : Happening → List Event
made_event (happening.Sent link bytes true) = event.Closed link ∷ []
made_event (happening.Dialled peer link) = dial_event link ∷ []
made_event _ = []

-- the events that failed sends and dials make, in order
abbrev pub made_events : List Happening → List Event
made_events happened = flat_map made_event happened

-- What a send comes to on a link on which a send failed before, or didn't.
abbrev pub SendsOn : Bool → ℕ → List ℕ → List Happening → Type 0
SendsOn true link bytes happened = happened ≡ []
SendsOn false link bytes happened = (fails : Bool) × (happened ≡ happening.Sent link bytes fails ∷ [])

-- What happens at the port for one action, where sends on these links failed before among the actions of its step.
abbrev pub Does : List ℕ → Action → List Happening → Type 0
Does failed (Keep bytes) happened = happened ≡ []
Does failed (Send link bytes) happened = SendsOn (has_link failed link) link bytes happened
Does failed (Dial peer) happened = (link : Option ℕ) × (happened ≡ happening.Dialled peer link ∷ [])
Does failed (Close link cause) happened = happened ≡ happening.Shut link ∷ []
Does failed (Told link outcome) happened = happened ≡ []
Does failed (Judged judged) happened = happened ≡ []

-- What happens at the port for actions, in their order.
abbrev pub Performs : List ℕ → List Action → List Happening → Type 0
Performs failed [] happened = happened ≡ []
Performs failed (action ∷ actions) happened =
    (now later : List Happening) × Does failed action now × (happened ≡ now ++ later) × Performs (failed ++ flat_map failed_link now) actions later

-- One action was performed at the port. Where that went well to its end, the failed link and the event that it made are
-- kept.
pub record Did (action : Action) (failed failed_after : List ℕ) (queue queue_after : List Event)
    (story story_after : Option (List Happening)) (faults faults_after : ℕ) (whole : Bool) : Type 0 where
  pub happened : List Happening
  pub does : Does failed action happened
  pub told : Appends story story_after happened
  pub faulted : RisesWhere (fails_at_links happened) faults faults_after
  pub links : IsTrue whole → failed_after ≡ failed ++ flat_map failed_link happened
  pub events : IsTrue whole → queue_after ≡ queue ++ made_events happened

-- the line that is put for an action: none for what is kept, and for what is done at the port
abbrev pub puts : {S : Type 0} → Machine S → Action → List ℕ
puts machine (Told link outcome) = machine.line (Told link outcome)
puts machine (Judged judged) = machine.line (Judged judged)
puts machine _ = []

-- the writes for a text that is kept: one into the file of that name, where there is a name
abbrev pub writes_of : Option (List ℕ) → List ℕ → List Write
writes_of None text = []
writes_of (Some name) text = (name, text, false) ∷ []

-- the writes for an action
abbrev pub writes_for : Option (List ℕ) → Action → List Write
writes_for file (Keep text) = writes_of file text
writes_for file _ = []

-- how many events an action can make
abbrev pub most_made : Action → ℕ
most_made (Send link bytes) = 1
most_made (Dial peer) = 1
most_made _ = 0

-- how many events actions can make
abbrev pub most_made_by : List Action → ℕ
most_made_by [] = 0
most_made_by (action ∷ actions) = most_made action + most_made_by actions

-- an event that a failed send or a dial makes
abbrev pub is_made : Event → Bool
is_made (event.Closed link) = true
is_made (event.Dialled link) = true
is_made event.DialFailed = true
is_made _ = false

-- events of which each is one that a failed send or a dial makes
abbrev pub are_made : List Event → Bool
are_made queue = list_all is_made queue

-- What the loop and the outside have while actions are performed.
pub record LoopState : Type 0 where
  -- the links on which a send failed among these actions
  pub failed : List ℕ
  -- the events that wait
  pub queue : List Event
  -- what the port tells that happened, and the sink that it took
  pub story : Option (List Happening)
  -- how often dials and sends failed
  pub link_faults : ℕ
  pub taken : Option (List ℕ)
  pub files : FilesTold

-- what the loop has, and what they tell, by the meanings of their traits
abbrev pub loop_of : {P S F : Type 0} → (P → Option (List Happening)) → (P → ℕ) → (S → Option (List ℕ)) → (F → FilesTold) → P → S → F →
    List ℕ → List Event → LoopState
loop_of story link_faults taken told port out files failed queue =
    record { failed = failed; queue = queue; story = story port; link_faults = link_faults port; taken = taken out; files = told files }

-- `actions` were performed, in order, their lines put, and their texts written into the file of the name `file`.
pub record Performed (line : Action → List ℕ) (file : Option (List ℕ)) (actions : List Action) (before after : LoopState) : Type 0 where
  pub happened : List Happening
  pub performs : Performs before.failed actions happened
  pub story : Appends before.story after.story happened
  pub faulted : RisesWhere (fails_at_links happened) before.link_faults after.link_faults
  pub failed : after.failed ≡ before.failed ++ flat_map failed_link happened
  pub queue : after.queue ≡ before.queue ++ made_events happened
  pub taken : Appends before.taken after.taken (flat_map line actions)
  pub files : WritesFiles before.files after.files (flat_map (writes_for file) actions)

-- the line of the first of these actions, if there is one
abbrev pub next_line : (Action → List ℕ) → List Action → List ℕ
next_line line [] = []
next_line line (action ∷ actions) = line action

-- A write failed: of the text of the next action, into the file of that name.
pub record FailsToWrite (file : Option (List ℕ)) (rest : List Action) (lost : List Write) : Type 0 where
  pub name : List ℕ
  pub name_is : file ≡ Some name
  pub text : List ℕ
  pub later : List Action
  pub next : rest ≡ Keep text ∷ later
  pub lost_is : lost ≡ (name, text, true) ∷ []

-- Where a file is named, the write of that text into it failed.
pub record FailsToKeep (file : Option (List ℕ)) (text : List ℕ) (before after : FilesTold) : Type 0 where
  pub name : List ℕ
  pub name_is : file ≡ Some name
  pub writes : WritesFiles before after ((name, text, true) ∷ [])

-- the writes that failed, by why the actions were cut short: one at a fault of the files, else none
abbrev pub Loses : Halt → Option (List ℕ) → List Action → List Write → Type 0
Loses FileFault file rest lost = FailsToWrite file rest lost
Loses _ file rest lost = lost ≡ []

-- A front of these actions was performed, their lines put and their texts written; of the next action's line a front
-- was put, or the write of its text failed.
pub record CutShort (line : Action → List ℕ) (file : Option (List ℕ)) (halt : Halt) (actions : List Action) (before after : LoopState) : Type 0 where
  pub done : List Action
  pub rest : List Action
  pub all : done ++ rest ≡ actions
  pub happened : List Happening
  pub performs : Performs before.failed done happened
  pub story : Appends before.story after.story happened
  pub faulted : RisesWhere (fails_at_links happened) before.link_faults after.link_faults
  pub part : List ℕ
  pub more : List ℕ
  pub front : part ++ more ≡ next_line line rest
  pub taken : Appends before.taken after.taken (flat_map line done ++ part)
  pub lost : List Write
  pub loses : Loses halt file rest lost
  pub files : WritesFiles before.files after.files (flat_map (writes_for file) done ++ lost)

-- an exit that performing actions can come to
abbrev pub IsOfActs : Halt → Type 0
IsOfActs FileFault = Unit {0}
IsOfActs SinkFault = Unit {0}
IsOfActs NoMemory = Unit {0}
IsOfActs _ = ⊥
