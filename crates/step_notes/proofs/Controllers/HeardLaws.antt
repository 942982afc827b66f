-- What a controller hears in the bytes of one whole unit.
-- It serves `controllers_hear_whole`.
use Rattle.std.proofs.Common.{◌≡◌, ◌⊎◌, ℕ, Bool, true, false, not, ◌&&◌, List, [], ◌∷◌, map, inl, inr, Option, Some, None, Result, Ok, Err, refl, sym, ap, ap₂, subst, ◌∙◌, nat_le}
use Rattle.std.specs.List.{AllByRecursion}
use Rattle.rpc_units.specs.Joining.{AddsTo, answer_by, answer_of, grown, in_place, joined_by, joined_of, kept_by, open_after, same_call, stub_len}
use Rattle.rpc_units.specs.Reading.{unit_of}
use Rattle.rpc_units.specs.Writing.{written}
use Rattle.rpc_units.specs.declared.refused.JoinRefused.{JoinRefused}
use Rattle.rpc_units.specs.declared.refused.JoinRefused.TheVariants as join
use Rattle.rpc_units.specs.declared.unit.Unit.{Unit as RpcUnit}
use Rattle.end_links.specs.Agreed.{Agreed}
use Rattle.end_links.specs.Serving.{Server, ServedPart, served_by, served_cut, then_open, then_talk, ServedUnit, served_units, units_on, units_then}
use Rattle.logon_stubs.specs.declared.calls.Call.{Call}
use Rattle.logon_stubs.specs.declared.refused.StubRefused.{StubRefused}
use Rattle.interactive_logon.specs.declared.calls.InteractiveCall.{InteractiveCall}
use Rattle.interactive_logon.specs.Calls.{is_logon}
use Rattle.controller_calls.specs.declared.calls.ControllerCall.{ControllerCall}
use Rattle.domain_controller.specs.Hearing.{bound_talk, hear, hear_on, hear_read}
use Rattle.domain_controller.specs.Machine.{Desk, by_heard, controller_server}
use Rattle.domain_controller.specs.declared.hearing.Heard.{Heard}
use Rattle.domain_controller.specs.declared.hearing.Heard.TheVariants as heard
use Rattle.controller_calls.specs.declared.line.Line.{Line}
use Rattle.domain_controller.specs.declared.state.Talk.{Talk}
use Rattle.domain_controller.proofs.UnitLaws.{Acks, CallRead, Faults, IsHeardAs, IsWholeCall, Naks, OfInteractive, OfNetlogon, OfSet, Unbound, heard_comes as unit_comes, unit_heard}
use Rattle.step_notes.specs.HeardWhole.{ControllersHearWhole, IsCallOf, LeavesNothingOpen, arm_read, call_carried, call_read, interactive_read, number_read, request_read, set_read}

-- ---- joining

-- a fragment with which a unit is whole leaves nothing open; one with which it isn't leaves something
whole_last : (joined : Result RpcUnit JoinRefused) (last : Bool) (whole : RpcUnit) → answer_by joined last ≡ Ok (Some whole) → last ≡ true
whole_last (Err why) last whole is = absurd (let x = is in cc)
whole_last (Ok unit) true whole is = refl
whole_last (Ok unit) false whole is = absurd (let x = is in cc)

part_last : (joined : Result RpcUnit JoinRefused) (last : Bool) → answer_by joined last ≡ Ok None → last ≡ false
part_last (Err why) last is = absurd (let x = is in cc)
part_last (Ok unit) true is = absurd (let x = is in cc)
part_last (Ok unit) false is = refl

pub none_open : (so_far : Option RpcUnit) (frame whole : RpcUnit) → answer_of so_far frame ≡ Ok (Some whole) → open_after so_far frame ≡ None
none_open so_far frame whole is = ap (λ (last : Bool). kept_by last (grown so_far frame)) (whole_last (joined_of so_far frame) frame.last whole is)

some_open : (so_far : Option RpcUnit) (frame : RpcUnit) → answer_of so_far frame ≡ Ok None → open_after so_far frame ≡ Some (grown so_far frame)
some_open so_far frame is = ap (λ (last : Bool). kept_by last (grown so_far frame)) (part_last (joined_of so_far frame) frame.last is)

-- a fragment that is joined was in its place
was_placed : (placed fits : Bool) (whole : RpcUnit) (last : Bool) (answer : Option RpcUnit) → answer_by (joined_by placed fits whole) last ≡ Ok answer → placed ≡ true
was_placed true fits whole last answer is = refl
was_placed false fits whole last answer is = absurd (let x = is in cc)

placed_behind : (first same : Bool) → (not first && same) ≡ true → first ≡ false
placed_behind false same is = refl
placed_behind true same is = absurd (let x = is in cc)

behind : (open_unit frame : RpcUnit) (answer : Option RpcUnit) → answer_of (Some open_unit) frame ≡ Ok answer → frame.first ≡ false
unfolding joined_of
behind open_unit frame answer is =
    placed_behind frame.first (same_call open_unit frame)
    (was_placed (in_place (Some open_unit) frame) (nat_le (stub_len (Some open_unit) frame) 65536) (grown (Some open_unit) frame) frame.last answer is)

refused_first : (frame : RpcUnit) → frame.first ≡ false → answer_of None frame ≡ Err join.OutOfPlace
unfolding joined_of
refused_first frame isnt =
    ap (λ (placed : Bool). answer_by (joined_by placed (nat_le (stub_len None frame) 65536) (grown None frame)) frame.last) isnt

-- ---- what is said on the link while the frames of a unit come

-- a link is bound, and what is open is what was joined; or it isn't bound, and nothing is open; or it is bound since a
-- frame, and nothing is open
abbrev Said : Option RpcUnit → Talk → Type 0
Said so_far talk =
    ((agreed : Agreed) × (talk ≡ bound_talk so_far agreed))
    ⊎ ((talk ≡ record { joiner = None; binding = None }) ⊎ ((open_unit : RpcUnit) × (agreed : Agreed) × (so_far ≡ Some open_unit) × (talk ≡ bound_talk None agreed)))

-- what a frame comes to: by what is open after it, and by whether the unit is whole with it
abbrev Comes : RpcUnit → Option RpcUnit → Bool → Heard → Type 0
Comes whole after last (heard.Close cause) = Unit {0}
Comes whole after last (heard.Answer bytes talk) = Said after talk
Comes whole after last (heard.Waits talk) = Said after talk
Comes whole after last (heard.Asked line c talk) = (last ≡ true) × Said after talk × (line.call ≡ whole.call) × (call_carried whole.body ≡ Some c)

-- ---- the call that is read of a unit

read_call : (opnum : ℕ) (stub : List ℕ) (c : ControllerCall) → CallRead opnum stub c → request_read opnum stub ≡ Some c
read_call opnum stub c (OfNetlogon read other is same) =
    ap (λ (set : Bool). number_read set opnum stub) other ∙ ap (λ (r : Result Call StubRefused). call_read r opnum stub) is ∙ ap Some (sym same)
read_call opnum stub c (OfInteractive read arm other refuses one is same) =
    ap (λ (set : Bool). number_read set opnum stub) other
    ∙ ap (λ (r : Result Call StubRefused). call_read r opnum stub) refuses
    ∙ ap (λ (hit : Bool). arm_read hit opnum stub) one
    ∙ ap (λ (r : Result InteractiveCall StubRefused). interactive_read r (is_logon opnum)) is
    ∙ ap Some (sym same)
read_call opnum stub c (OfSet read own is same) = ap (λ (set : Bool). number_read set opnum stub) own ∙ ap set_read is ∙ ap Some (sym same)

-- ---- what may be open

-- nothing, or something
abbrev IsLast : Option RpcUnit → Type 0
IsLast after = (after ≡ None) ⊎ ((open_unit : RpcUnit) × (after ≡ Some open_unit))

talk_is : (talk : Talk) (binding : Option Agreed) (joiner : Option RpcUnit) → talk.binding ≡ binding → talk.joiner ≡ joiner → talk ≡ record { joiner = joiner; binding = binding }
talk_is talk binding joiner bound open_is = ap₂ (λ (j : Option RpcUnit) (b : Option Agreed). record { joiner = j; binding = b }) open_is bound

said_anew : (binding : Option Agreed) (talk : Talk) (after : Option RpcUnit) → talk.binding ≡ binding → talk.joiner ≡ None → IsLast after → Said after talk
said_anew None talk after bound none is = inr (inl (talk_is talk None None bound none))
said_anew (Some agreed) talk after bound none is =
    let same : talk ≡ bound_talk None agreed = talk_is talk (Some agreed) None bound none in
    elim is [
      | inl nothing ↦ inl (agreed, same ∙ ap (λ (j : Option RpcUnit). bound_talk j agreed) (sym nothing))
      | inr some ↦ inr (inr (some.0, agreed, some.1, same))
    ]

first_said : (talk : Talk) → talk.joiner ≡ None → Said None talk
first_said talk none = said_anew talk.binding talk None refl none (inl refl)

-- ---- any frame

-- by what the frame makes of what was joined
abbrev Adds : Option RpcUnit → RpcUnit → RpcUnit → Bool → Type 0
Adds so_far frame whole true = answer_of so_far frame ≡ Ok (Some whole)
Adds so_far frame whole false = answer_of so_far frame ≡ Ok None

is_last : (last : Bool) (so_far : Option RpcUnit) (frame whole : RpcUnit) → Adds so_far frame whole last → IsLast (open_after so_far frame)
is_last true so_far frame whole adds = inl (none_open so_far frame whole adds)
is_last false so_far frame whole adds = inr (grown so_far frame, some_open so_far frame adds)

-- the call is whole with the frame
is_whole : (last : Bool) (so_far : Option RpcUnit) (frame whole other : RpcUnit) → Adds so_far frame whole last → answer_of so_far frame ≡ Ok (Some other) → (last ≡ true) × (other ≡ whole)
is_whole true so_far frame whole other adds is = (refl, let same : other ≡ whole = cc in same)
is_whole false so_far frame whole other adds is = absurd (let never : Ok None ≡ Ok (Some other) = sym adds ∙ is in cc)

not_first : (last : Bool) (open_unit frame whole : RpcUnit) → Adds (Some open_unit) frame whole last → frame.first ≡ false
not_first true open_unit frame whole adds = behind open_unit frame (Some whole) adds
not_first false open_unit frame whole adds = behind open_unit frame None adds

module _ (last : Bool) (so_far : Option RpcUnit) (frame whole : RpcUnit) (link : ℕ) (talk : Talk) (adds : Adds so_far frame whole last) (said : Said so_far talk) where
  -- where a frame is joined, it is to what was joined before
  same_joiner : (agreed : Agreed) (joined : Option RpcUnit) → talk.binding ≡ Some agreed → answer_of talk.joiner frame ≡ Ok joined → talk.joiner ≡ so_far
  same_joiner agreed joined on is = elim said [
    | inl bound ↦ ap (λ (t : Talk). t.joiner) bound.1
    | inr rest ↦ elim rest [
      | inl fresh ↦ absurd (let never : None ≡ Some agreed = sym (ap (λ (t : Talk). t.binding) fresh) ∙ on in cc)
      | inr since ↦
          let behind_one : frame.first ≡ false = not_first last since.0 frame whole (subst (λ (o : Option RpcUnit). Adds o frame whole last) since.2 adds) in
          let never : Err join.OutOfPlace ≡ Ok joined =
          sym (refused_first frame behind_one) ∙ ap (λ (t : Talk). answer_of t.joiner frame) (sym since.3) ∙ is in
          absurd cc
    ]
  ]

  joined_said : (agreed : Agreed) (joined : Option RpcUnit) (later : Talk) → talk.binding ≡ Some agreed → answer_of talk.joiner frame ≡ Ok joined →
      later ≡ bound_talk (open_after talk.joiner frame) agreed → Said (open_after so_far frame) later
  joined_said agreed joined later on is same =
      inl (agreed, same ∙ ap (λ (j : Option RpcUnit). bound_talk (open_after j frame) agreed) (same_joiner agreed joined on is))

  -- where nothing was bound nothing is open
  free_joiner : talk.binding ≡ None → talk.joiner ≡ None
  free_joiner free = elim said [
    | inl bound ↦ absurd (let never : Some bound.0 ≡ None = sym (ap (λ (t : Talk). t.binding) bound.1) ∙ free in cc)
    | inr rest ↦ elim rest [ inl fresh ↦ ap (λ (t : Talk). t.joiner) fresh | inr since ↦ ap (λ (t : Talk). t.joiner) since.3 ]
  ]

  free_said : (later : Talk) → talk.binding ≡ None → later.joiner ≡ talk.joiner → Said (open_after so_far frame) later
  free_said later free same = said_anew later.binding later (open_after so_far frame) refl (same ∙ free_joiner free) (is_last last so_far frame whole adds)

  -- a call that is heard is that of the whole unit
  whole_comes : (line : Line) (later : Talk) (c : ControllerCall) (at : IsWholeCall link frame talk line later) → CallRead at.opnum at.stub c →
      Comes whole (open_after so_far frame) last (heard.Asked line c later)
  whole_comes line later c at read =
      let joined : answer_of so_far frame ≡ Ok (Some at.whole) =
      ap (λ (j : Option RpcUnit). answer_of j frame) (sym (same_joiner at.agreed (Some at.whole) at.bound at.joined)) ∙ at.joined in
      let its : (last ≡ true) × (at.whole ≡ whole) = is_whole last so_far frame whole at.whole adds joined in (
        its.0,
        joined_said at.agreed (Some at.whole) later at.bound at.joined at.said,
        ap Line.call at.line_is ∙ ap (λ (unit : RpcUnit). unit.call) its.1,
        ap (λ (unit : RpcUnit). call_carried unit.body) (sym its.1) ∙ ap call_carried at.body ∙ read_call at.opnum at.stub c read,
      )

  frame_comes : (what : Heard) → IsHeardAs link frame talk what → Comes whole (open_after so_far frame) last what
  frame_comes (heard.Close cause) is = tt
  frame_comes (heard.Answer bytes later) (Acks send receive group contexts free body written_so same) = free_said later free (ap (λ (t : Talk). t.joiner) same)
  frame_comes (heard.Answer bytes later) (Naks free written_so same) = free_said later free (ap (λ (t : Talk). t.joiner) same)
  frame_comes (heard.Answer bytes later) (Unbound free written_so same) = free_said later free (ap (λ (t : Talk). t.joiner) same)
  frame_comes (heard.Answer bytes later) (Faults status line small at written_so) = joined_said at.agreed (Some at.whole) later at.bound at.joined at.said
  frame_comes (heard.Waits later) is = joined_said is.0 is.3.0 later is.1 is.3.1 is.2
  frame_comes (heard.Asked line c later) is = whole_comes line later c is.0 is.1

heard_comes : (last : Bool) (so_far : Option RpcUnit) (frame whole : RpcUnit) (link : ℕ) (talk : Talk) → unit_of (written frame) ≡ Ok frame → Adds so_far frame whole last → Said so_far talk →
    Comes whole (open_after so_far frame) last (hear link (written frame) talk)
heard_comes last so_far frame whole link talk read adds said =
    subst (λ (r : _). Comes whole (open_after so_far frame) last (hear_read r link talk)) (sym read)
    (frame_comes last so_far frame whole link talk adds said (hear_on talk.binding frame link talk.joiner) (unit_heard link frame talk))

-- ---- what is said then

abbrev SaidIf : Option RpcUnit → Option Talk → Type 0
SaidIf after None = Unit {0}
SaidIf after (Some talk) = Said after talk

abbrev SaidPart : Option RpcUnit → ServedPart Desk Talk → Type 0
SaidPart after (Err why) = Unit {0}
SaidPart after (Ok part) = SaidIf after part.value.1

unit_said : (what : Heard) (whole : RpcUnit) (after : Option RpcUnit) (last : Bool) (link : ℕ) (name : List ℕ) (now : ℕ) (d : Desk) (left : List (List ℕ)) → Comes whole after last what →
    SaidPart after (by_heard what link name now d left)
unit_said what whole after last link name now d left =
    unit_comes (λ (one : Heard) (part : ServedPart Desk Talk). Comes whole after last one → SaidPart after part) link name now d left (record {
      close = λ cause comes. tt;
      answer = λ bytes talk comes. comes;
      waits = λ talk comes. comes;
      spent = λ line c talk none comes. tt;
      unknown = λ line c talk server rest is none comes. comes.1;
      known = λ line c talk server rest is known comes. comes.1;
      denied = λ line c talk status fails none comes. comes.1;
      accepted = λ line c talk opens comes. comes.1;
      judged = λ line c talk behind its comes. comes.1;
    }) what

is_call : (what : Heard) (whole : RpcUnit) (after : Option RpcUnit) (last : Bool) → Comes whole after last what → IsCallOf whole what
is_call (heard.Close cause) whole after last comes = tt
is_call (heard.Answer bytes talk) whole after last comes = tt
is_call (heard.Waits talk) whole after last comes = tt
is_call (heard.Asked line c talk) whole after last comes = (comes.2, comes.3)

nothing_said : (after : Option RpcUnit) (talk : Talk) → after ≡ None → Said after talk → talk.joiner ≡ None
nothing_said after talk none said = elim said [
  | inl bound ↦ ap (λ (t : Talk). t.joiner) bound.1 ∙ none
  | inr rest ↦ elim rest [ inl fresh ↦ ap (λ (t : Talk). t.joiner) fresh | inr since ↦ ap (λ (t : Talk). t.joiner) since.3 ]
]

-- ---- all frames

abbrev pub AreRead : List RpcUnit → Type 0
AreRead frames = AllByRecursion (λ (frame : RpcUnit). unit_of (written frame) ≡ Ok frame) frames

abbrev IsHeardIn : RpcUnit → ℕ → ServedUnit Desk Talk → Type 0
IsHeardIn whole link served = IsCallOf whole (hear link served.bytes served.talk)

module _ (whole : RpcUnit) (name : List ℕ) (now link : ℕ) where
  abbrev server : Server Desk Talk
  server = controller_server name now link

  on_heard : (d : Desk) (said : Option Talk) (left : List (List ℕ)) (after : Option RpcUnit) (later : Desk → Talk → List (List ℕ) → List (ServedUnit Desk Talk)) → SaidIf after said →
      ((d : Desk) (talk : Talk) (left : List (List ℕ)) → Said after talk → AllByRecursion (IsHeardIn whole link) (later d talk left)) →
      AllByRecursion (IsHeardIn whole link) (units_on d said left later)
  on_heard d None left after later said each = tt
  on_heard d (Some talk) left after later said each = each d talk left said

  then_heard : (part : ServedPart Desk Talk) (after : Option RpcUnit) (later : Desk → Talk → List (List ℕ) → List (ServedUnit Desk Talk)) → SaidPart after part →
      ((d : Desk) (talk : Talk) (left : List (List ℕ)) → Said after talk → AllByRecursion (IsHeardIn whole link) (later d talk left)) →
      AllByRecursion (IsHeardIn whole link) (units_then part later)
  then_heard (Err why) after later said each = tt
  then_heard (Ok part) after later said each = on_heard part.value.0 part.value.1 part.left after later said each

  frames_heard : (frames : List RpcUnit) (so_far : Option RpcUnit) (d : Desk) (talk : Talk) (left : List (List ℕ)) → AreRead frames → AddsTo so_far frames whole → Said so_far talk →
      AllByRecursion (IsHeardIn whole link) (served_units server (map written frames) d talk left)
  frames_heard [] so_far d talk left read adds said = absurd adds
  frames_heard (frame ∷ []) so_far d talk left read adds said =
      let comes = heard_comes true so_far frame whole link talk read.0 adds said in (
        is_call (hear link (written frame) talk) whole (open_after so_far frame) true comes,
        then_heard (server.unit (written frame) d talk left) (open_after so_far frame) (λ later t rest. served_units server [] later t rest)
            (unit_said (hear link (written frame) talk) whole (open_after so_far frame) true link name now d left comes) (λ later t rest so. tt),
      )
  frames_heard (frame ∷ next ∷ frames) so_far d talk left read adds said =
      let comes = heard_comes false so_far frame whole link talk read.0 adds.0 said in (
        is_call (hear link (written frame) talk) whole (open_after so_far frame) false comes,
        then_heard (server.unit (written frame) d talk left) (open_after so_far frame) (λ later t rest. served_units server (map written (next ∷ frames)) later t rest)
            (unit_said (hear link (written frame) talk) whole (open_after so_far frame) false link name now d left comes)
            (λ later t rest so. frames_heard (next ∷ frames) (open_after so_far frame) later t rest read.1 adds.1 so),
      )

  -- ---- what is open then

  talk_open : (d : Desk) (said : Option Talk) (left : List (List ℕ)) (after : Option RpcUnit) (later : Desk → Talk → List (List ℕ) → ServedPart Desk Talk) → SaidIf after said →
      ((d : Desk) (talk : Talk) (left : List (List ℕ)) → Said after talk → LeavesNothingOpen (later d talk left)) → LeavesNothingOpen (then_talk d said left later)
  talk_open d None left after later said each = tt
  talk_open d (Some talk) left after later said each = each d talk left said

  then_leaves : (part : ServedPart Desk Talk) (after : Option RpcUnit) (later : Desk → Talk → List (List ℕ) → ServedPart Desk Talk) → SaidPart after part →
      ((d : Desk) (talk : Talk) (left : List (List ℕ)) → Said after talk → LeavesNothingOpen (later d talk left)) → LeavesNothingOpen (then_open part later)
  then_leaves (Err why) after later said each = tt
  then_leaves (Ok part) after later said each = talk_open part.value.0 part.value.1 part.left after later said each

  frames_leave : (frames : List RpcUnit) (so_far : Option RpcUnit) (d : Desk) (talk : Talk) (left : List (List ℕ)) → AreRead frames → AddsTo so_far frames whole → Said so_far talk →
      LeavesNothingOpen (served_by server (map written frames) None d talk left)
  frames_leave [] so_far d talk left read adds said = absurd adds
  frames_leave (frame ∷ []) so_far d talk left read adds said =
      then_leaves (server.unit (written frame) d talk left) (open_after so_far frame) (λ later t rest. served_by server [] None later t rest)
      (unit_said (hear link (written frame) talk) whole (open_after so_far frame) true link name now d left (heard_comes true so_far frame whole link talk read.0 adds said))
      (λ later t rest so. nothing_said (open_after so_far frame) t (none_open so_far frame whole adds) so)
  frames_leave (frame ∷ next ∷ frames) so_far d talk left read adds said =
      then_leaves (server.unit (written frame) d talk left) (open_after so_far frame) (λ later t rest. served_by server (map written (next ∷ frames)) None later t rest)
      (unit_said (hear link (written frame) talk) whole (open_after so_far frame) false link name now d left (heard_comes false so_far frame whole link talk read.0 adds.0 said))
      (λ later t rest so. frames_leave (next ∷ frames) (open_after so_far frame) later t rest read.1 adds.1 so)

-- ---- a whole unit

pub each_read : (frames : List RpcUnit) → map unit_of (map written frames) ≡ map (λ (unit : RpcUnit). Ok unit) frames → AreRead frames
each_read [] all = tt
each_read (frame ∷ frames) all = (let x = all in cc, each_read frames (let x = all in cc))

pub controllers_hear : ControllersHearWhole
controllers_hear = record {
  calls = λ name now link bytes frames unit d talk left is none.
      subst (λ (cut : _). AllByRecursion (IsHeardIn unit link) (served_units (controller_server name now link) cut.units d talk left)) (sym is.stream)
      (frames_heard unit name now link frames None d talk left (each_read frames is.read) is.joined (first_said talk none));
  after = λ name now link bytes frames unit d talk left is none.
      subst (λ (cut : _). LeavesNothingOpen (served_cut (controller_server name now link) cut d talk left)) (sym is.stream)
      (frames_leave unit name now link frames None d talk left (each_read frames is.read) is.joined (first_said talk none));
  rest = λ bytes frames unit is. ap (λ (cut : _). cut.rest) is.stream;
}
