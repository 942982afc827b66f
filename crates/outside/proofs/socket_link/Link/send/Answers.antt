use Rattle.std.proofs.Common.{◌≡◌, ◌-◌, ◌++◌, length, take, drop, ap, subst, ◌∙◌, take-append-drop, if◌then◌else◌}
use Rattle.std.specs.Io.KnownBytes.{Appends}
use Rattle.std.proofs.KnownBytes.{append_known-passed, Keeps-refl}
use Rattle.std.proofs.lemmas.List.{take_rest}
use Rattle.outside.proofs.socket_link.Link.send.Goals as goal

-- nothing waited: the socket took the front of the bytes, and the rest waits
pub returns-in-Some : goal.returns-in-Some
returns-in-Some g c = record {
  told = λ kept.
      let old = c.args.self.now.waiting.items in
      let xs = c.args.bytes.now in
      let n = c.in-Some.count in
      let rest = take (length xs - n) (drop n xs) in
      let whole : take n xs ++ rest ≡ xs = ap (λ l. take n xs ++ l) (take_rest xs n) ∙ take-append-drop n xs in
      let grown = c.keep-in-Some.ensures ∙ ap (λ b. if b then old ++ rest else old) kept in
      subst (Appends _ _) whole (append_known-passed _ _ _ old _ _ _ (Keeps-refl _) (c.waits.ensures.none c.if-waits.false) c.in-Some.ensures.told grown);
}
