-- The units of a stream, served one after the other by any end (this project's own choice). `W` is the end at work, and
-- `T` what is said on the link.
use Rattle.std.specs.Prelude.{ℕ, ◌≡◌, ◌++◌, ◌≤◌, Bool, List, [], ◌∷◌, length, Option, Some, None, Result, Ok, Err}
use Rattle.outside.specs.declared.action.StepRefused.{StepRefused}
use Rattle.outside.specs.Drawing.{IsRest}
use Rattle.outside.specs.Machine.{Part, AnswersBy, then_part, left_by}
use Rattle.rpc_units.specs.declared.refused.UnitRefused.{UnitRefused}
use Rattle.rpc_units.specs.declared.unit.Unit.{Unit as RpcUnit}
use Rattle.rpc_units.specs.Calls.{CanBeSent, bytes_of_call}
use Rattle.rpc_units.specs.Joining.{answer_of, open_after, fragment, stub_of}
use Rattle.rpc_units.specs.Reading.{unit_of}
use Rattle.rpc_units.specs.Stream.{Cut, cut_stream}
use Rattle.end_links.specs.Links.{LinkState}

-- what serving comes to, where the challenges are enough: the end afterwards, and what is said then, or None where the
-- link is closed
abbrev pub ServedPart : Type 0 → Type 0 → Type 0
ServedPart W T = Result (Part (W × Option T)) StepRefused

-- what serving comes to by the end at work, what is said, and the challenges that are left
abbrev pub Service : Type 0 → Type 0 → Type 0
Service W T = W → T → List (List ℕ) → ServedPart W T

-- How an end serves the bytes of a unit, and how it closes a link whose rest is refused.
pub record Server (W T : Type 0) : Type 0 where
  pub unit : List ℕ → Service W T
  pub refusal : UnitRefused → W → T → List (List ℕ) → Result (Part W) StepRefused

-- the link is closed
abbrev pub with_close : {W T : Type 0} → Result (Part W) StepRefused → ServedPart W T
with_close (Err why) = Err why
with_close (Ok part) = Ok (record { value = (part.value, None); left = part.left })

-- what comes later, where the link stays open
abbrev pub then_talk : {W T : Type 0} → W → Option T → List (List ℕ) → Service W T → ServedPart W T
then_talk work None left later = Ok (record { value = (work, None); left = left })
then_talk work (Some talk) left later = later work talk left

abbrev pub then_open : {W T : Type 0} → ServedPart W T → Service W T → ServedPart W T
then_open part later = then_part part (λ done left. then_talk done.0 done.1 left later)

-- the units in order, and then the refusal of the rest, where it is refused. After a close nothing more is served
abbrev pub served_by : {W T : Type 0} → Server W T → List (List ℕ) → Option UnitRefused → Service W T
served_by server [] None work talk left = Ok (record { value = (work, Some talk); left = left })
served_by server [] (Some why) work talk left = with_close (server.refusal why work talk left)
served_by server (bytes ∷ units) why work talk left =
    then_open (server.unit bytes work talk left) (λ later said rest. served_by server units why later said rest)

abbrev pub served_cut : {W T : Type 0} → Server W T → Cut → Service W T
served_cut server cut work talk left = served_by server cut.units cut.refused work talk left

-- ---- the units that are served, each with what stood before it

-- a unit that is served: its bytes; the end at work, what was said on the link and the challenges that were left,
-- before it; and what it comes to
pub record ServedUnit (W T : Type 0) : Type 0 where
  pub bytes : List ℕ
  pub work : W
  pub talk : T
  pub left : List (List ℕ)
  pub part : ServedPart W T

-- what follows a unit, where the link stays open
abbrev pub units_on : {W T : Type 0} → W → Option T → List (List ℕ) → (W → T → List (List ℕ) → List (ServedUnit W T)) → List (ServedUnit W T)
units_on work None left later = []
units_on work (Some talk) left later = later work talk left

abbrev pub units_then : {W T : Type 0} → ServedPart W T → (W → T → List (List ℕ) → List (ServedUnit W T)) → List (ServedUnit W T)
units_then (Err why) later = []
units_then (Ok part) later = units_on part.value.0 part.value.1 part.left later

-- the units in order, up to the one that closes the link
abbrev pub served_units : {W T : Type 0} → Server W T → List (List ℕ) → W → T → List (List ℕ) → List (ServedUnit W T)
served_units server [] work talk left = []
served_units server (bytes ∷ units) work talk left =
    record { bytes = bytes; work = work; talk = talk; left = left; part = server.unit bytes work talk left }
    ∷ units_then (server.unit bytes work talk left) (λ later said rest. served_units server units later said rest)

-- ---- how a call that serves a stream answers

abbrev pub talk_in : {T : Type 0} → Option (LinkState T) → Option T
talk_in None = None
talk_in (Some link) = Some link.talk

-- a link that stays open has that rest
abbrev pub HasRest : {T : Type 0} → Option (LinkState T) → List ℕ → Type 0
HasRest None rest = Unit {0}
HasRest (Some link) rest = link.rest ≡ rest

-- the end and the link, where the machine's part is that, that is the rest of the stream, and these challenges are left
-- after the call
abbrev pub StreamsBy : {W T : Type 0} →
    Result (W × Option (LinkState T)) StepRefused → ServedPart W T → List ℕ → List (List ℕ) → Type 0
StreamsBy (Ok done) part rest left =
    (part ≡ Ok (record { value = (done.0, talk_in done.1); left = left })) × HasRest done.1 rest
StreamsBy (Err why) part rest left = AnswersBy (Err why) part left

-- an end that leaves a rest of the challenges that it is given
pub record ServerLeavesRest {W T : Type 0} (server : Server W T) : Type 0 where
  pub unit : (bytes : List ℕ) (work : W) (talk : T) (left : List (List ℕ)) → IsRest (left_by (server.unit bytes work talk left)) left
  pub refusal : (why : UnitRefused) (work : W) (talk : T) (left : List (List ℕ)) → IsRest (left_by (server.refusal why work talk left)) left

-- ---- laws

-- the unit is a fragment of that call
pub record IsFragmentOf (call unit : RpcUnit) : Type 0 where
  pub first : Bool
  pub last : Bool
  pub stub : List ℕ
  pub is : unit ≡ fragment call first last stub

-- An end that joins the fragments of that call. `saying` is what is said on the link by what is open, and `serve` what
-- the whole call comes to.
pub record JoinsCall {W T : Type 0} (server : Server W T) (call : RpcUnit) (saying : Option RpcUnit → T)
    (serve : W → List (List ℕ) → ServedPart W T) : Type 0 where
  -- a fragment before the last changes nothing but what is open
  pub before : (bytes : List ℕ) (unit : RpcUnit) (so_far : Option RpcUnit) (work : W) (left : List (List ℕ)) →
      unit_of bytes ≡ Ok unit → IsFragmentOf call unit → answer_of so_far unit ≡ Ok None →
      server.unit bytes work (saying so_far) left ≡ Ok (record { value = (work, Some (saying (open_after so_far unit))); left = left })
  -- at the last the whole call is served
  pub last : (bytes : List ℕ) (unit : RpcUnit) (so_far : Option RpcUnit) (work : W) (left : List (List ℕ)) →
      unit_of bytes ≡ Ok unit → IsFragmentOf call unit → answer_of so_far unit ≡ Ok (Some call) →
      server.unit bytes work (saying so_far) left ≡ serve work left

-- What holds of the units of a stream, whatever end serves them.
pub record UnitsServed (W T : Type 0) : Type 0 where
  -- a stream that comes in two pieces is served as what its pieces give joined: first the units of the first piece, and
  -- then, where the link stays open, those of its rest with the second
  pub pieces : (server : Server W T) (stream more : List ℕ) (work : W) (talk : T) (left : List (List ℕ)) →
      (cut_stream stream).refused ≡ None →
      served_cut server (cut_stream (stream ++ more)) work talk left
      ≡ then_open (served_cut server (cut_stream stream) work talk left)
      (λ later said rest. served_cut server (cut_stream ((cut_stream stream).rest ++ more)) later said rest)
  -- what follows a refused unit changes nothing
  pub refused : (server : Server W T) (stream more : List ℕ) (why : UnitRefused) (work : W) (talk : T) (left : List (List ℕ)) →
      (cut_stream stream).refused ≡ Some why →
      served_cut server (cut_stream (stream ++ more)) work talk left ≡ served_cut server (cut_stream stream) work talk left
  -- the frames of a call that is sent are served as that call, once, at the last of them
  pub call : (server : Server W T) (call : RpcUnit) (limit : ℕ) (saying : Option RpcUnit → T) (serve : W → List (List ℕ) → ServedPart W T)
      (work : W) (left : List (List ℕ)) → CanBeSent call limit → length (stub_of call.body) ≤ 65536 → JoinsCall server call saying serve →
      served_cut server (cut_stream (bytes_of_call call limit)) work (saying None) left ≡ serve work left
  -- challenges are drawn from the front of those that are left
  pub rest : (server : Server W T) (cut : Cut) (work : W) (talk : T) (left : List (List ℕ)) → ServerLeavesRest server →
      IsRest (left_by (served_cut server cut work talk left)) left
