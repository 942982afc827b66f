use Rattle.std.proofs.Common.{◌≡◌, ℕ, ◌+◌, ◌≤◌, ◌++◌, List, Some, length, take, drop, sym, ap, subst, ◌∙◌, arith}
use Rattle.std.proofs.Math.Seq.{take-append_seam}
use Rattle.std.proofs.lemmas.List.{drop_all, length-append}
use Rattle.std.specs.List.{flat_map, AllByRecursion}
use Rattle.rpc_units.proofs.CuttingLaws.{call_short}
use Rattle.rpc_units.specs.Writing.{IsWritable, value_len, written}
use Rattle.unit_security.specs.Securing.{behind, secure_all, secure_unit, secured_if}
use Rattle.unit_security.proofs.FragmentLaws.{front_of, secure_more, secure_stops, secure_ends}
use Rattle.unit_security.proofs.securing.secure_fragments.Goals as goal

pub returns-then-not-secure_unit-clause-answer : goal.returns-then-not-secure_unit-clause-answer
returns-then-not-secure_unit-clause-answer c =
    let items = c.items-unit-items.result.now in
    let unit = c.unit-item.result in
    let front = front_of items c.loop-unit.unit-index unit c.unit-item.is c.loop-unit-test.true in
    let secured : secure_unit c.args.seals c.loop-unit.session (written unit) ≡ secured_if c.secure_unit.result c.secure_unit.new.bytes c.secure_unit.new.session =
    ap (secure_unit c.args.seals c.loop-unit.session) (sym (c.deref_mut.ensures.value ∙ c.into_vec-one.ensures ∙ c.in_ok-room.ensures.value)) ∙ c.secure_unit.ensures.answer in
    ap (secure_all c.args.seals c.args.session.now) (sym (c.items-unit-items.ensures ∙ c.in_ok-units.ensures.cut))
    ∙ sym c.loop-unit.invariant.so_far
    ∙ ap (λ rest. behind c.loop-unit.bytes.items (secure_all c.args.seals c.loop-unit.session rest)) front
    ∙ secure_stops c.args.seals c.loop-unit.session c.secure_unit.new.session c.loop-unit.bytes.items c.secure_unit.new.bytes c.secure_unit.result unit
    (drop (c.loop-unit.unit-index + 1) items) secured c.if-not-secure_unit.true

pub loop-unit-preserved : goal.loop-unit-preserved
loop-unit-preserved c =
    let items = c.items-unit-items.result.now in
    let unit = c.unit-item.result in
    let front = front_of items c.loop-unit.unit-index unit c.unit-item.is c.loop-unit-test.true in
    let secured : secure_unit c.args.seals c.loop-unit.session (written unit) ≡ secured_if c.secure_unit.result c.secure_unit.new.bytes c.secure_unit.new.session =
    ap (secure_unit c.args.seals c.loop-unit.session) (sym (c.deref_mut.ensures.value ∙ c.into_vec-one.ensures ∙ c.in_ok-room.ensures.value)) ∙ c.secure_unit.ensures.answer in
    let size : c.into_vec-one.result.len ≡ length c.secure_unit.new.bytes = omega (arith, c.secure_unit.auto.bytes, c.deref_mut.ensures.len, c.into_vec-one.result.ok) in
    let put = c.deref.ensures.value ∙ ap (λ n. take n (c.secure_unit.new.bytes ++ drop (length c.secure_unit.new.bytes) c.into_vec-one.result.items)) size
    ∙ take-append_seam c.secure_unit.new.bytes (drop (length c.secure_unit.new.bytes) c.into_vec-one.result.items) in
    let out = c.in_ok-extend_from_slice.ensures.items ∙ ap (λ more. c.loop-unit.bytes.items ++ more) put in
    record {
      so_far =
          ap (λ bytes. behind bytes (secure_all c.args.seals c.secure_unit.new.session (drop (c.loop-unit.unit-index + 1) items))) out
          ∙ sym (secure_more c.args.seals c.loop-unit.session c.secure_unit.new.session c.loop-unit.bytes.items c.secure_unit.new.bytes c.secure_unit.result unit
          (drop (c.loop-unit.unit-index + 1) items) secured c.if-not-secure_unit.false)
          ∙ ap (λ rest. behind c.loop-unit.bytes.items (secure_all c.args.seals c.loop-unit.session rest)) (sym front)
          ∙ c.loop-unit.invariant.so_far;
      size = omega (
        arith,
        ap (λ (bytes : List ℕ). length bytes) out,
        length-append c.loop-unit.bytes.items c.secure_unit.new.bytes,
        c.secure_unit.ensures.len ∙ ap (λ (bytes : List ℕ). length bytes) (c.deref_mut.ensures.value ∙ c.into_vec-one.ensures ∙ c.in_ok-room.ensures.value),
        length-append (written unit) (flat_map written (drop (c.loop-unit.unit-index + 1) items)),
        ap (λ units. length (flat_map written units)) front,
        c.loop-unit.invariant.size,
      );
      writable = (subst (AllByRecursion IsWritable) front c.loop-unit.invariant.writable).1;
      short = (subst (AllByRecursion (λ u. length (written u) + 16 ≤ c.args.limit + value_len c.args.call.now.trailer)) front c.loop-unit.invariant.short).1;
    }

pub returns-clause-answer : goal.returns-clause-answer
returns-clause-answer c =
    let items = c.items-unit-items.result.now in
    ap (secure_all c.args.seals c.args.session.now) (sym (c.items-unit-items.ensures ∙ c.in_ok-units.ensures.cut))
    ∙ sym c.loop-unit.invariant.so_far
    ∙ ap (λ rest. behind c.loop-unit.bytes.items (secure_all c.args.seals c.loop-unit.session rest)) (drop_all c.loop-unit.unit-index items c.loop-unit-test.false)
    ∙ secure_ends c.args.seals c.loop-unit.session c.loop-unit.bytes.items
    ∙ ap (λ bytes. Some (record { bytes = bytes; session = c.loop-unit.session })) (sym c.from_vec.ensures)

pub returns-clause-short : goal.returns-clause-short
returns-clause-short c =
    let items = c.items-unit-items.result.now in
    omega (
      arith,
      ap (λ (bytes : List ℕ). length bytes) c.from_vec.ensures,
      c.loop-unit.invariant.size,
      ap (λ units. length (flat_map written units)) (c.items-unit-items.ensures ∙ c.in_ok-units.ensures.cut),
      call_short c.args.call.now c.args.limit c.requires.whole.stub c.requires.least (omega (arith, c.requires.value)),
    )
