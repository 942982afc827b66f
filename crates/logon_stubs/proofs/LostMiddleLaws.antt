-- The law `lost_middles_are_refused`: a Logon call whose stub lost bytes in its middle isn't read.
use Rattle.std.proofs.Common.{◌≡◌, ℕ, ◌+◌, ◌≤◌, ◌<◌, Bool, true, false, List, [], ◌++◌, length, take, drop, Option, Some, None, Result, Ok, Err, refl, sym, ap, subst, ◌∙◌, arith, append_assoc}
use Rattle.std.specs.Prelude.{IfErr}
use Rattle.std.specs.Option.{option_map, unwrap_or}
use Rattle.std.proofs.lemmas.List.{length-append, length-take, append-nil, take_at, take-append-drop, take-append-le}
use Rattle.wire_base.specs.Numbers.{AreBytes}
use Rattle.wire_base.proofs.NumberLaws.{AreBytes-append}
use Rattle.ndr_codec.specs.declared.refused.NdrRefused.{NdrRefused}
use Rattle.ndr_codec.specs.declared.parts.Head.{Head}
use Rattle.ndr_codec.specs.Cursor.{Cursor, IsPlaced}
use Rattle.ndr_codec.specs.Layout.{start_of, short}
use Rattle.ndr_codec.specs.Parts.{units, bytes, pointed, unique, unique_text, some_pointer, halves, head, IfThere, size_if_there}
use Rattle.ndr_codec.specs.Reading.{read_on}
use Rattle.ndr_codec.specs.Stub.{Begins, HasLayout, made_of}
use Rattle.ndr_codec.proofs.Agreeing.{placed_found, read_on-Ok}
use Rattle.ndr_codec.proofs.EndLaws.{going_on, going_on_reads, EndsSo, ends_so, ends_more, target_end, ends_units, ends_bytes, short_within, long_within, ends_unique_text, ends_some_pointer, ends_halves, ends_head, HasPlace, RefusesSo, refuses_so, refused_units, refused_bytes}
use Rattle.ndr_codec.proofs.GivenLaws.{front_bytes, back_bytes}
use Rattle.ndr_codec.proofs.StubLaws.{agree}
use Rattle.rpc_units.specs.Joining.{stub_size}
use Rattle.logon_stubs.specs.Calls.{leveled_info, request_arm, logoff_call, logon_call, call_of}
use Rattle.logon_stubs.specs.Layout.{Layout, reading_of, item, part, done, ◌>>=◌}
use Rattle.logon_stubs.specs.LostMiddles.{LogonHeads, logon_heads, HoldsHeads, names_size, HasShortNames, LostMiddles}
use Rattle.logon_stubs.specs.Ranges.{bytes_of_text, InRangeLogonCall}
use Rattle.logon_stubs.specs.Refusals.{stub_refused}
use Rattle.logon_stubs.specs.Structures.{authenticator, network_info}
use Rattle.logon_stubs.specs.Writing.{CanWriteLogonCall, written_call}
use Rattle.logon_stubs.specs.declared.calls.LogonCall.{LogonCall}
use Rattle.logon_stubs.specs.declared.calls.Call.{Call}
use Rattle.logon_stubs.specs.declared.calls.Call.TheVariants as call
use Rattle.logon_stubs.specs.declared.refused.StubRefused.{StubRefused}
use Rattle.logon_stubs.specs.declared.refused.StubRefused.TheVariants.{BadStub, Memory}
use Rattle.logon_stubs.proofs.WrittenLaws.{written_logon, AreBytes-written_call}

-- ---- what follows the heads

-- the targets in the order of their pointers, and the validation level
logon_tail : LogonHeads → Layout LogonCall
logon_tail heads = do
  domain ← part (units heads.domain)
  user ← part (units heads.user)
  workstation ← part (units heads.workstation)
  nt ← part (bytes heads.nt)
  lm ← part (bytes heads.lm)
  validation ← item short
  done (record {
    server = heads.server;
    computer = heads.computer;
    authenticator = heads.authenticator;
    returned = heads.returned;
    info = record { domain = domain; control = heads.control; logon_id = heads.logon_id; user = user; workstation = workstation; challenge = heads.challenge; nt = nt; lm = lm };
    validation = validation;
  })

-- a Logon is its heads, and then what they call for
same_parts : going_on logon_call (λ value. done value) ≡ going_on logon_heads logon_tail
unfolding logon_call logoff_call leveled_info request_arm network_info logon_heads logon_tail
same_parts = refl

nothing_more : {T : Type 0} (read : Result (T × Cursor) StubRefused) → read_on read (λ value. reading_of (done value)) ≡ read
nothing_more (Ok step) = refl
nothing_more (Err why) = refl

reads_on : (cursor : Cursor) → reading_of logon_call cursor ≡ read_on (reading_of logon_heads cursor) (λ heads. reading_of (logon_tail heads))
reads_on cursor =
    sym (nothing_more (reading_of logon_call cursor))
    ∙ sym (going_on_reads stub_refused logon_call (λ value. done value) cursor)
    ∙ ap (λ (layout : Layout LogonCall). reading_of layout cursor) same_parts
    ∙ going_on_reads stub_refused logon_heads logon_tail cursor

-- where the target of a head ends
behind : Head → ℕ → ℕ
behind front place = target_end front.there front.len place

-- where the heads say that a Logon ends, which themselves end at a place
tail_end : LogonHeads → ℕ → ℕ
tail_end heads place = start_of 2 (behind heads.lm (behind heads.nt (behind heads.workstation (behind heads.user (behind heads.domain place))))) + 2

-- a Logon has the names of its heads, and ends where they say
record IsTailOf (heads : LogonHeads) (place : ℕ) (value : LogonCall) (end : ℕ) : Type 0 where
  server : value.server ≡ heads.server
  computer : value.computer ≡ heads.computer
  ends : end ≡ tail_end heads place

tail_ends : (heads : LogonHeads) (place : ℕ) → EndsSo (logon_tail heads) place (IsTailOf heads place)
unfolding logon_tail tail_end behind
tail_ends heads place =
    ends_units heads.domain _ _ (λ domain.
    ends_units heads.user _ _ (λ user.
    ends_units heads.workstation _ _ (λ workstation.
    ends_bytes heads.nt _ _ (λ nt.
    ends_bytes heads.lm _ _ (λ lm.
    λ validation. record { server = refl; computer = refl; ends = refl })))))

-- ---- what a stub begins with is read

begins_reads : {T : Type 0} (layout : Layout T) (value : T) (stub : List ℕ) → AreBytes stub → (is : Begins layout value stub) →
    reading_of layout (record { stub = stub; place = 0 }) ≡ Ok (value, record { stub = stub; place = 0 + length is.bytes })
begins_reads layout value stub are is =
    (agree stub_refused layout).only (record { stub = stub; place = 0 }) value _ (record { inside = omega arith; bytes = are })
    (record { bytes = is.bytes; rest = is.rest; stands = is.whole; item = is.has_layout; after = refl })

-- what a front begins with, the whole begins with
longer : {T : Type 0} (layout : Layout T) (value : T) (front rest : List ℕ) → Begins layout value front → Begins layout value (front ++ rest)
longer layout value front rest is = record {
  bytes = is.bytes;
  rest = is.rest ++ rest;
  whole = ap (λ (t : List ℕ). t ++ rest) is.whole ∙ append_assoc is.bytes is.rest rest;
  has_layout = is.has_layout;
}

-- ---- a stub whose heads are known

module _ (front rest : List ℕ) (are : AreBytes (front ++ rest)) (holds : HoldsHeads front) where
  -- where the heads end
  heads_end : Cursor
  heads_end = record { stub = front ++ rest; place = 0 + length holds.begins.bytes }

  heads_read : reading_of logon_heads (record { stub = front ++ rest; place = 0 }) ≡ Ok (holds.heads, heads_end)
  unfolding heads_end longer
  heads_read = begins_reads logon_heads holds.heads (front ++ rest) are (longer logon_heads holds.heads front rest holds.begins)

  tail_read : reading_of logon_call (record { stub = front ++ rest; place = 0 }) ≡ reading_of (logon_tail holds.heads) heads_end
  tail_read =
      reads_on (record { stub = front ++ rest; place = 0 })
      ∙ ap (λ (read : Result (LogonHeads × Cursor) StubRefused). read_on read (λ heads. reading_of (logon_tail heads))) heads_read

  heads_placed : IsPlaced heads_end
  unfolding heads_end
  heads_placed =
      let whole : length front ≡ length holds.begins.bytes + length holds.begins.rest = ap length holds.begins.whole ∙ length-append holds.begins.bytes holds.begins.rest in
      record { inside = omega (arith, whole, length-append front rest); bytes = are }

  -- a Logon that begins there ends where they say
  logon_end : (value : LogonCall) (is : Begins logon_call value (front ++ rest)) → length is.bytes ≡ tail_end holds.heads heads_end.place
  unfolding heads_end
  logon_end value is =
      let read = sym tail_read ∙ begins_reads logon_call value (front ++ rest) are is in
      let found = (agree stub_refused (logon_tail holds.heads)).found heads_end value _ heads_placed read in
      let ends = ends_so (logon_tail holds.heads) (IsTailOf holds.heads heads_end.place) heads_end.place value found.bytes (tail_ends holds.heads heads_end.place) found.item in
      let same : 0 + length is.bytes ≡ heads_end.place + length found.bytes = ap (λ (c : Cursor). c.place) found.after in
      omega (arith, same, ends.ends)

-- ---- the heads are in front

ends_pointed : (there : Bool) (place : ℕ) → EndsSo (pointed authenticator there) (start_of 4 place + 4) (λ value end. end ≤ place + 22)
unfolding authenticator
ends_pointed false place = omega (arith, long_within place)
ends_pointed true place = λ credential timestamp. omega (arith, long_within place, long_within (start_of 4 place + 4 + 8))

ends_authenticator : (place : ℕ) → EndsSo (unique authenticator) place (λ value end. end ≤ place + 22)
unfolding unique
ends_authenticator place = λ there. ends_pointed there place

abbrev AreShort : LogonHeads → ℕ → Type 0
AreShort heads end = end ≤ 199 + (size_if_there bytes_of_text heads.server + size_if_there bytes_of_text heads.computer)

heads_short : EndsSo logon_heads 0 AreShort
unfolding logon_heads
heads_short =
    ends_more unique_text 0 _ _ (λ server a a-le.
    ends_more unique_text a _ _ (λ computer b b-le.
    ends_more (unique authenticator) b _ _ (λ presented c c-le.
    ends_more (unique authenticator) c _ _ (λ returned d d-le. λ level tag holds.
    ends_more some_pointer _ _ _ (λ there e e-le.
    ends_more (head 2) e _ _ (λ domain f f-le. λ control.
    ends_more halves _ _ _ (λ logon_id g g-le.
    ends_more (head 2) g _ _ (λ user h h-le.
    ends_more (head 2) h _ _ (λ workstation i i-le. λ challenge.
    ends_more (head 1) _ _ _ (λ nt j j-le.
    ends_more (head 1) j _ _ (λ lm k k-le.
    omega (arith, a-le, b-le, c-le, d-le, short_within d, short_within (start_of 2 d + 2), e-le, f-le, long_within f, g-le, h-le, i-le, j-le, k-le))
    (ends_head 1 j)) (ends_head 1 (i + 8))) (ends_head 2 h)) (ends_head 2 g)) (ends_halves (start_of 4 f + 4))) (ends_head 2 e)) (ends_some_pointer (start_of 2 (start_of 2 d + 2) + 2))) (ends_authenticator c)) (ends_authenticator b)) (ends_unique_text a)) (ends_unique_text 0)

-- what the whole begins with, a front of at least as many bytes begins with
front_is : (one more front rest : List ℕ) → front ++ rest ≡ one ++ more → length one ≤ length front → front ≡ one ++ drop (length one) front
front_is one more front rest e le =
    let taken : take (length one) front ≡ one = sym (take-append-le (length one) front rest le) ∙ ap (take (length one)) e ∙ take_at one more (length one) refl in
    sym (take-append-drop (length one) front) ∙ ap (λ (t : List ℕ). t ++ drop (length one) front) taken

heads_hold : (value : LogonCall) (front rest : List ℕ) → AreBytes (front ++ rest) → Begins logon_call value (front ++ rest) → 199 + names_size value ≤ length front → HoldsHeads front
heads_hold value front rest are is enough =
    let start : Cursor = record { stub = front ++ rest; place = 0 } in
    let placed : IsPlaced start = record { inside = omega arith; bytes = are } in
    let s = read_on-Ok (reading_of logon_heads start) (λ heads. reading_of (logon_tail heads)) value _ (sym (reads_on start) ∙ begins_reads logon_call value (front ++ rest) are is) in
    let one = (agree stub_refused logon_heads).found start s.head s.middle placed s.one in
    let there = placed_found (HasLayout logon_heads) start s.middle s.head placed one in
    let more = (agree stub_refused (logon_tail s.head)).found s.middle value _ there s.more in
    let tail = ends_so (logon_tail s.head) (IsTailOf s.head s.middle.place) s.middle.place value more.bytes (tail_ends s.head s.middle.place) more.item in
    let few : 0 + length one.bytes ≤ 199 + (size_if_there bytes_of_text s.head.server + size_if_there bytes_of_text s.head.computer) = ends_so logon_heads AreShort 0 s.head one.bytes heads_short one.item in
    let server = ap (size_if_there bytes_of_text) tail.server in
    let computer = ap (size_if_there bytes_of_text) tail.computer in
    record {
      heads = s.head;
      begins = record {
        bytes = one.bytes;
        rest = drop (length one.bytes) front;
        whole = front_is one.bytes one.rest front rest one.stands (omega (arith, few, server, computer, enough));
        has_layout = one.item;
      };
    }

name_short : (name : Option (List ℕ)) → IfThere (λ units. length units ≤ 64) name → size_if_there bytes_of_text name ≤ 128
name_short None is = omega arith
name_short (Some units) is = omega (arith, is)

first_holds : (value : LogonCall) (stub : List ℕ) (limit : ℕ) → AreBytes stub → Begins logon_call value stub → HasShortNames value → 1432 ≤ limit → stub_size limit ≤ length stub →
    HoldsHeads (take (stub_size limit) stub)
first_holds value stub limit are is names least enough =
    let size = stub_size limit in
    let whole : stub ≡ take size stub ++ drop size stub = sym (take-append-drop size stub) in
    let front_len : length (take size stub) ≡ stub_size limit = omega (arith, length-take size stub, enough) in
    heads_hold value (take size stub) (drop size stub) (subst AreBytes whole are) (subst (λ (t : List ℕ). Begins logon_call value t) whole is)
    (omega (arith, front_len, least, name_short value.server names.server, name_short value.computer names.computer))

-- ---- fewer bytes behind the same heads

IsBad : StubRefused → Type 0
IsBad why = (place : ℕ) × (why ≡ BadStub place)

bad_item : (why : NdrRefused) → HasPlace why → IsBad (stub_refused why)
unfolding IsBad
bad_item why has = (has.0, ap (λ (o : Option ℕ). unwrap_or (option_map (λ place. BadStub place) o) Memory) has.1)

tail_refuses : (heads : LogonHeads) → RefusesSo stub_refused (logon_tail heads) IsBad
unfolding logon_tail
tail_refuses heads = (
  refused_units heads.domain _ bad_item,
  λ domain. (
    refused_units heads.user _ bad_item,
    λ user. (
      refused_units heads.workstation _ bad_item,
      λ workstation. (
        refused_bytes heads.nt _ bad_item,
        λ nt. (
          refused_bytes heads.lm _ bad_item,
          λ lm.
              (bad_item, λ validation. tt),
        ),
      ),
    ),
  ),
)

refused_by : (stub : List ℕ) (read : Result (LogonCall × Cursor) StubRefused) → reading_of logon_call (record { stub = stub; place = 0 }) ≡ read → IfErr read IsBad →
    ((value : LogonCall) (next : Cursor) → read ≡ Ok (value, next) → ⊥) → (place : ℕ) × (call_of 2 stub ≡ Err (BadStub place))
unfolding call_of IsBad
refused_by stub (Ok step) e law none = absurd (none step.0 step.1 refl)
refused_by stub (Err why) e law none =
    (law.0, ap (made_of (λ value. call.Logon value)) e ∙ ap (λ (r : StubRefused). failed r) law.1)
  where
    failed : StubRefused → Result Call StubRefused
    failed why = Err why

same_length : (value other : LogonCall) (front rest more : List ℕ) → AreBytes (front ++ rest) → AreBytes (front ++ more) → HoldsHeads front →
    (one : Begins logon_call value (front ++ rest)) (two : Begins logon_call other (front ++ more)) → length one.bytes ≡ length two.bytes
unfolding heads_end
same_length value other front rest more are also holds one two = logon_end front rest are holds value one ∙ sym (logon_end front more also holds other two)

shorter : (value : LogonCall) (front rest fewer : List ℕ) → AreBytes (front ++ rest) → AreBytes (front ++ fewer) → HoldsHeads front → HasLayout logon_call 0 value (front ++ rest) →
    length fewer < length rest → (place : ℕ) × (call_of 2 (front ++ fewer) ≡ Err (BadStub place))
shorter value front rest fewer are also holds has less =
    let start : Cursor = record { stub = front ++ fewer; place = 0 } in
    let law : IfErr (reading_of logon_call start) IsBad =
    subst (λ (read : Result (LogonCall × Cursor) StubRefused). IfErr read IsBad) (sym (tail_read front fewer also holds))
    (refuses_so stub_refused (logon_tail holds.heads) IsBad (heads_end front fewer also holds) (tail_refuses holds.heads)) in
    let all : Begins logon_call value (front ++ rest) = record { bytes = front ++ rest; rest = []; whole = sym (append-nil (front ++ rest)); has_layout = has } in
    refused_by (front ++ fewer) (reading_of logon_call start) refl law (λ other next e.
    let found = (agree stub_refused logon_call).found start other next (record { inside = omega arith; bytes = also }) e in
    let it : Begins logon_call other (front ++ fewer) = record { bytes = found.bytes; rest = found.rest; whole = found.stands; has_layout = found.item } in
    let one : length (front ++ rest) ≡ length found.bytes = same_length value other front rest fewer are also holds all it in
    let two : length (front ++ fewer) ≡ length found.bytes + length found.rest = ap length found.stands ∙ length-append found.bytes found.rest in
    omega (arith, one, two, less, length-append front rest, length-append front fewer))

lost : (value : LogonCall) (front middle back : List ℕ) → CanWriteLogonCall value → InRangeLogonCall value → written_call (call.Logon value) ≡ front ++ (middle ++ back) → HoldsHeads front →
    1 ≤ length middle → (place : ℕ) × (call_of 2 (front ++ back) ≡ Err (BadStub place))
lost value front middle back can is whole holds some =
    let are : AreBytes (front ++ (middle ++ back)) = subst AreBytes whole (AreBytes-written_call (call.Logon value) can is) in
    let both = back_bytes front (middle ++ back) are in
    let also = AreBytes-append front back (front_bytes front (middle ++ back) are) (back_bytes middle back both) in
    shorter value front (middle ++ back) back are also holds (subst (λ (t : List ℕ). HasLayout logon_call 0 value t) whole (written_logon value can is)) (omega (arith, some, length-append middle back))

pub lost_middles : LostMiddles
lost_middles = record {
  heads = heads_hold;
  first_fragment = first_holds;
  same_length = same_length;
  shorter = shorter;
  lost = lost;
}
