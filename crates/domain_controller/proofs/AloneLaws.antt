-- For the law `replies_are_read_as_made`: bytes that are those of one whole unit are those of no other, and the frames
-- of a reply, whatever their size, are those of that reply where they are those of a whole unit.
use Rattle.std.proofs.Common.{◌≡◌, ℕ, zero, suc, ◌+◌, ◌%◌, ◌<◌, ◌≤◌, ◌^◌, ◌&&◌, Bool, true, false, List, [], ◌∷◌, ◌++◌, length, nat_le, take, drop, map, Option, Some, None, Result, Ok, Err, inl, inr, refl, sym, ap, subst, ◌∙◌, arith, append-nil, if◌then◌else◌}
use Rattle.std.specs.Int.{w32}
use Rattle.std.specs.List.{AllByRecursion, flat_map}
use Rattle.std.proofs.lemmas.Bool.{and_from, cases_lt, eq-eqb, le-leb, lt-leb}
use Rattle.std.proofs.lemmas.List.{length-append, length-drop, length-take, take-append-drop}
use Rattle.std.proofs.lemmas.Nat.{from_le_bytes-to_le_bytes_2}
use Rattle.rpc_units.specs.declared.kind.Kind.{Kind}
use Rattle.rpc_units.specs.declared.refused.JoinRefused.{JoinRefused}
use Rattle.rpc_units.specs.declared.refused.UnitRefused.{UnitRefused}
use Rattle.rpc_units.specs.declared.unit.Unit.{Unit as RpcUnit}
use Rattle.rpc_units.specs.declared.unit.Body.TheVariants.{Response}
use Rattle.rpc_units.specs.Calls.{IsHeard, bytes_of_call}
use Rattle.rpc_units.specs.Joining.{AddsTo, Continue, IsJoined, answer_of, cut_of, fragment, fragments_of, open_after, same_call, stub_size, stubs_of}
use Rattle.rpc_units.specs.Layout.{byte, fragment_of, has_fragment, has_representation, has_version, kind_of, value_at}
use Rattle.rpc_units.specs.Reading.{header_by, kind_in, unit_of}
use Rattle.rpc_units.specs.Stream.{Cut, cut_stream, front_after, front_of}
use Rattle.rpc_units.specs.Writing.{IsInRange, IsSendable, IsWritable, written, written_body, written_rest, written_start, zeros}
use Rattle.rpc_units.proofs.CutStreamLaws.{cut_first, cut_refused, cut_written}
use Rattle.rpc_units.proofs.CuttingLaws.{fragments_end, fragments_more}
use Rattle.rpc_units.proofs.GrammarLaws.{IsUnit-unit_of}
use Rattle.rpc_units.proofs.JoiningLaws.{AddsTo-IsJoined, IsJoined-AddsTo}
use Rattle.rpc_units.proofs.WritingLaws.{IsUnit-written, length_written, unit_of-written}
use Rattle.end_links.specs.Sending.{response_of}
use Rattle.domain_controller.specs.ReadBack.{heard_reply}
use Rattle.domain_controller.proofs.NumberedLaws.{reply_alike}
use Rattle.logon_stubs.specs.Ranges.{short_reply_limit}

-- ---- bytes are those of one whole unit alone

abbrev read_ok : RpcUnit → Result RpcUnit UnitRefused
read_ok unit = Ok unit

ok_is : (one other : RpcUnit) → read_ok one ≡ read_ok other → one ≡ other
ok_is one other is = cc

oks_are : (units others : List RpcUnit) → map (λ (unit : RpcUnit). read_ok unit) units ≡ map (λ (unit : RpcUnit). read_ok unit) others → units ≡ others
oks_are [] [] is = refl
oks_are [] (other ∷ others) is = absurd (let x = is in cc)
oks_are (unit ∷ units) [] is = absurd (let x = is in cc)
oks_are (unit ∷ units) (other ∷ others) is =
    let first : read_ok unit ≡ read_ok other = cc in
    let rest : map (λ (u : RpcUnit). read_ok u) units ≡ map (λ (u : RpcUnit). read_ok u) others = cc in
    ap (λ (u : RpcUnit). u ∷ units) (ok_is unit other first) ∙ ap (λ (us : List RpcUnit). other ∷ us) (oks_are units others rest)

joined_is : (found : Result (Option RpcUnit) JoinRefused) (one other : RpcUnit) → found ≡ Ok (Some one) → found ≡ Ok (Some other) → one ≡ other
joined_is found one other is also = cc

adds_one : (now_open : Option RpcUnit) (units : List RpcUnit) (one other : RpcUnit) → AddsTo now_open units one → AddsTo now_open units other → one ≡ other
adds_one now_open [] one other adds also = absurd adds
adds_one now_open (unit ∷ []) one other adds also = joined_is (answer_of now_open unit) one other adds also
adds_one now_open (unit ∷ next ∷ units) one other adds also = adds_one (open_after now_open unit) (next ∷ units) one other adds.1 also.1

units_are : (bytes : List ℕ) (frames others : List RpcUnit) (one other : RpcUnit) → IsHeard bytes frames one → IsHeard bytes others other → frames ≡ others
units_are bytes frames others one other heard also =
    let same : map written frames ≡ map written others = ap (λ (c : Cut). c.units) (sym heard.stream ∙ also.stream) in
    oks_are frames others (sym heard.read ∙ ap (λ (us : List (List ℕ)). map unit_of us) same ∙ also.read)

one_whole : (bytes : List ℕ) (frames others : List RpcUnit) (one other : RpcUnit) → IsHeard bytes frames one → IsHeard bytes others other → one ≡ other
one_whole bytes frames others one other heard also =
    adds_one None others one other (subst (λ (us : List RpcUnit). AddsTo None us one) (units_are bytes frames others one other heard also) heard.joined) also.joined

-- ---- the call number of a whole unit has 32 bits

number_below : (f : RpcUnit) → value_at w32 (written f) 12 < 2 ^ 32
unfolding written written_start value_at
number_below f = omega arith

read_below : (f unit : RpcUnit) → unit_of (written f) ≡ Ok unit → unit.call < 2 ^ 32
read_below f unit read = rw ((IsUnit-unit_of (written f) unit read).call) (number_below f)

joined_below : (frames : List RpcUnit) (unit : RpcUnit) → map unit_of (map written frames) ≡ map (λ (f : RpcUnit). read_ok f) frames → IsJoined frames unit → unit.call < 2 ^ 32
joined_below [] unit read joined = absurd joined
joined_below (f ∷ frames) unit read joined =
    let one : unit_of (written f) ≡ Ok f = cc in
    subst (λ (n : ℕ). n < 2 ^ 32) (sym (ap (λ (u : RpcUnit). u.call) joined.2)) (read_below f f one)

pub number_fits : (bytes : List ℕ) (frames : List RpcUnit) (unit : RpcUnit) → IsHeard bytes frames unit → unit.call < 2 ^ 32
number_fits bytes frames unit heard = joined_below frames unit heard.read (IsJoined-AddsTo frames unit heard.joined)

-- ---- frames that are heard are short

abbrev no_refusal : Option UnitRefused
no_refusal = None

-- a header without a length that fits is refused
header_refuses : (version representation : Bool) (known : Option Kind) (found : ℕ) → (why : UnitRefused) × (header_by version representation false known found ≡ Err why)
header_refuses false representation known found = (_, refl)
header_refuses true false known found = (_, refl)
header_refuses true true known found = (_, refl)

told_len : (f : RpcUnit) (more : List ℕ) → 16 + length (written_rest f) < 2 ^ 16 → fragment_of (written f ++ more) ≡ 16 + length (written_rest f)
unfolding written written_start value_at
told_len f more below = from_le_bytes-to_le_bytes_2 (16 + length (written_rest f)) below

fragment_is : (f : RpcUnit) (more : List ℕ) → length (written f) < 2 ^ 16 → fragment_of (written f ++ more) ≡ length (written f)
fragment_is f more below = told_len f more (omega (arith, length_written f, below)) ∙ sym (length_written f)

no_fit : (least : Bool) → (least && false) && true ≡ false
no_fit false = refl
no_fit true = refl

front_by : (enough : Bool) (kind : Result Kind UnitRefused) (held : List ℕ) (why : UnitRefused) → enough ≡ true → kind ≡ Err why → (if enough then front_after kind held else Ok None) ≡ Err why
front_by enough kind held why there is = rw (there, is) refl

front_refuses : (f : RpcUnit) (more : List ℕ) → length (written f) < 2 ^ 16 → 5840 < length (written f) → (why : UnitRefused) × (front_of (written f ++ more) ≡ Err why)
unfolding front_of kind_in
front_refuses f more below long =
    let held : List ℕ = written f ++ more in
    let fits : nat_le (fragment_of held) 5840 ≡ false = ap (λ (n : ℕ). nat_le n 5840) (fragment_is f more below) ∙ lt-leb (length (written f)) 5840 long in
    let none : has_fragment held && true ≡ false = ap (λ (b : Bool). (nat_le 16 (fragment_of held) && b) && true) fits ∙ no_fit (nat_le 16 (fragment_of held)) in
    let refuses = header_refuses (has_version held) (has_representation held) (kind_of (byte held 2)) (byte held 2) in
    let kind : kind_in true held ≡ Err refuses.0 =
    ap (λ (b : Bool). header_by (has_version held) (has_representation held) b (kind_of (byte held 2)) (byte held 2)) none ∙ refuses.1 in
    let there : nat_le 16 (length held) ≡ true = le-leb 16 (length held) (omega (arith, length-append (written f) more, long)) in
    (refuses.0, front_by (nat_le 16 (length held)) (kind_in true held) held refuses.0 there kind)

-- a unit that can be written, and whose length is told
abbrev IsLoose : RpcUnit → Type 0
IsLoose f = IsWritable f × IsInRange f × (length (written f) < 2 ^ 16)

are_sendable : (fs : List RpcUnit) → AllByRecursion IsLoose fs → (cut_stream (flat_map written fs)).refused ≡ no_refusal → AllByRecursion IsSendable fs
are_sendable [] each none = tt
are_sendable (f ∷ fs) each none =
    let more : List ℕ = flat_map written fs in
    elim (cases_lt 5840 (length (written f))) [
      | inl long ↦
          let refuses = front_refuses f more each.0.2 long in
          absurd (let x : Some refuses.0 ≡ no_refusal = sym (ap Cut.refused (cut_refused (written f ++ more) refuses.0 refuses.1)) ∙ none in cc)
      | inr short ↦
          let can : IsSendable f = record { writable = each.0.0; range = each.0.1; short = short } in
          let first = cut_first (written f) more (record { unit = f; form = IsUnit-written f can.writable can.range short }) in
          (can, are_sendable fs each.1 (sym (ap Cut.refused first) ∙ none))
    ]

read_again : (fs : List RpcUnit) → AllByRecursion IsSendable fs → map unit_of (map written fs) ≡ map (λ (f : RpcUnit). read_ok f) fs
read_again [] each = refl
read_again (f ∷ fs) each =
    let can : IsSendable f = each.0 in
    let one = unit_of-written f can.writable can.range can.short in
    let more = read_again fs each.1 in
    (λ i. one i ∷ more i)

-- ---- the fragments of a reply, of whatever size

module _ (call context : ℕ) (stub : List ℕ) where
  abbrev part : Bool → Bool → List ℕ → RpcUnit
  part first last bytes = fragment (response_of call context stub) first last bytes

  abbrev parts : ℕ → ℕ → Bool → List ℕ → List RpcUnit
  parts most size first rest = fragments_of most (response_of call context stub) size first rest

  same_parts : (b : Bool) (one other : List ℕ) → same_call (part true false one) (part false b other) ≡ true
  same_parts b one other = and_from _ _ (eq-eqb call call refl) (rw (eq-eqb context context refl) refl)

  stubs_are : (most size : ℕ) (first : Bool) (rest : List ℕ) → stubs_of (parts most size first rest) ≡ rest
  stubs_are zero size first rest = append-nil rest
  stubs_are (suc most) size first rest =
      elim (cases_lt size (length rest)) [
        | inl long ↦
            rw (fragments_more most (response_of call context stub) size first rest long)
            (ap (λ (s : List ℕ). take size rest ++ s) (stubs_are most size false (drop size rest)) ∙ take-append-drop size rest)
        | inr short ↦ rw (fragments_end (suc most) (response_of call context stub) size first rest short) (append-nil rest)
      ]

  others_follow : (most size : ℕ) (rest one : List ℕ) → Continue (part true false one) false (parts most size false rest)
  others_follow zero size rest one = (refl, refl, same_parts true one rest, refl)
  others_follow (suc most) size rest one =
      elim (cases_lt size (length rest)) [
        | inl long ↦
            rw (fragments_more most (response_of call context stub) size false rest long)
            (refl, refl, same_parts false one (take size rest), others_follow most size (drop size rest) one)
        | inr short ↦ rw (fragments_end (suc most) (response_of call context stub) size false rest short) (refl, refl, same_parts true one rest, refl)
      ]

  abbrev with_bytes : List ℕ → RpcUnit
  with_bytes bytes = record { first = true; last = true; call = call; body = Response (length stub) context bytes; trailer = None }

  are_joined : (most size : ℕ) → IsJoined (parts most size true stub) (response_of call context stub)
  are_joined zero size = (refl, refl, ap with_bytes (sym (append-nil stub)))
  are_joined (suc most) size =
      elim (cases_lt size (length stub)) [
        | inl long ↦
            rw (fragments_more most (response_of call context stub) size true stub long) (
              refl,
              others_follow most size (drop size stub) (take size stub),
              ap with_bytes (sym (ap (λ (s : List ℕ). take size stub ++ s) (stubs_are most size false (drop size stub)) ∙ take-append-drop size stub)),
            )
        | inr short ↦ rw (fragments_end (suc most) (response_of call context stub) size true stub short) (refl, refl, ap with_bytes (sym (append-nil stub)))
      ]

  body_len : (bytes : List ℕ) → length (written_body (Response (length stub) context bytes)) ≡ 8 + length bytes
  unfolding zeros
  body_len bytes = omega arith

  part_loose : (first last : Bool) (bytes : List ℕ) → call < 2 ^ 32 → context < 2 ^ 16 → length stub ≤ short_reply_limit → length bytes ≤ short_reply_limit → IsLoose (part first last bytes)
  part_loose first last bytes number small few short = (
    record { pieces = tt; counts = tt; value = tt },
    record { call = number; body = (omega (arith, few), small); trailer = tt },
    omega (arith, length_written (part first last bytes), length-append (written_body (Response (length stub) context bytes)) [], body_len bytes, short),
  )

  parts_loose : (most size : ℕ) (first : Bool) (rest : List ℕ) → call < 2 ^ 32 → context < 2 ^ 16 → length stub ≤ short_reply_limit → length rest ≤ short_reply_limit → AllByRecursion IsLoose (parts most size first rest)
  parts_loose zero size first rest number small few short = (part_loose first true rest number small few short, tt)
  parts_loose (suc most) size first rest number small few short =
      elim (cases_lt size (length rest)) [
        | inl long ↦
            rw (fragments_more most (response_of call context stub) size first rest long) (
              part_loose first false (take size rest) number small few (omega (arith, length-take size rest, short)),
              parts_loose most size false (drop size rest) number small few (omega (arith, length-drop size rest, short)),
            )
        | inr end ↦ rw (fragments_end (suc most) (response_of call context stub) size first rest end) (part_loose first true rest number small few short, tt)
      ]

  -- the bytes are those of the reply alone
  below_alone : (limit : ℕ) (frames : List RpcUnit) (unit : RpcUnit) → call < 2 ^ 32 → context < 2 ^ 16 → length stub ≤ short_reply_limit →
      IsHeard (bytes_of_call (response_of call context stub) limit) frames unit → unit ≡ response_of call context stub
  unfolding cut_of
  below_alone limit frames unit number small few heard =
      let fs : List RpcUnit = parts (length stub) (stub_size limit) true stub in
      let can : AllByRecursion IsSendable fs = are_sendable fs (parts_loose (length stub) (stub_size limit) true stub number small few few) (ap Cut.refused heard.stream) in
      let short : length (stubs_of fs) ≤ 65536 = rw (stubs_are (length stub) (stub_size limit) true stub) (omega (arith, few)) in
      one_whole (flat_map written fs) frames fs unit (response_of call context stub) heard (record {
        stream = cut_written fs can;
        read = read_again fs can;
        joined = AddsTo-IsJoined fs (response_of call context stub) (are_joined (length stub) (stub_size limit)) short;
      })

pub reply_alone : (call context limit : ℕ) (stub : List ℕ) (frames : List RpcUnit) (unit : RpcUnit) → length stub ≤ short_reply_limit →
    IsHeard (bytes_of_call (response_of call context stub) limit) frames unit → unit ≡ heard_reply call context stub
reply_alone call context limit stub frames unit few heard =
    below_alone (call % 2 ^ 32) (context % 2 ^ 16) stub limit frames unit (omega arith) (omega arith) few
    (subst (λ (bytes : List ℕ). IsHeard bytes frames unit) (sym (reply_alike call context limit stub)) heard)
