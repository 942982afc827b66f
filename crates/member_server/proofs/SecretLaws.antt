-- What becomes of the secrets of the machine account, and what the channel is given of them before a turn. It serves
-- `texts_that_change_are_kept`, and the calls over a turn that ended and over the next one.
use Rattle.std.proofs.Common.{◌≡◌, ◌≢◌, ℕ, Bool, true, false, List, [], ◌∷◌, ◌++◌, length, Option, Some, None, is_some, is_none, refl, sym, ap, ◌∙◌, arith}
use Rattle.std.proofs.lemmas.List.{length-append}
use Rattle.hex.specs.Hex.{encode_lower, lower_digits}
use Rattle.hex.proofs.HexLemmas.{length-encode_with}
use Rattle.channel_client.specs.Machine.{can_start, needs_challenge}
use Rattle.channel_client.specs.declared.state.Pending.{Pending}
use Rattle.channel_client.specs.declared.state.Standing.{Standing}
use Rattle.channel_client.specs.declared.state.Standing.TheVariants as standing
use Rattle.channel_client.specs.declared.state.Waiting.{Waiting}
use Rattle.channel_turns.specs.declared.state.TurnEnd.{TurnEnd}
use Rattle.channel_turns.specs.declared.state.TurnEnd.TheVariants as turn_end
use Rattle.secret_change.specs.Secrets.{line_of, newline, written_secrets}
use Rattle.secret_change.specs.declared.secrets.Next.{Next}
use Rattle.member_server.specs.Secrets.{AreSecrets, SecretsState, TellsTextsApart, changes_text, confirmed_of, is_denied, next_of, secrets_after, secrets_dropped}

-- ---- a confirmation without a next secret changes nothing

unconfirmed : (next : Option Next) (current : List ℕ) → is_some (next_of (record { current = current; next = next })) ≡ false →
    record { current = current; next = next } ≡ confirmed_of (record { current = current; next = next })
unconfirmed None current none = refl
unconfirmed (Some n) current none = absurd cc

pub stays_unconfirmed : (s : SecretsState) → is_some (next_of s) ≡ false → s ≡ confirmed_of s
stays_unconfirmed s none = unconfirmed s.next s.current none

-- ---- whether the text is another

-- of secrets of which none is next
none_changes : (how : TurnEnd) (current : List ℕ) → changes_text how (record { current = current; next = None }) ≡ false
none_changes turn_end.Half current = refl
none_changes turn_end.Opened current = refl
none_changes (turn_end.Answer place verdict) current = refl
none_changes (turn_end.Dropped place cause) current = refl
none_changes turn_end.Set current = refl

without_next : (how : TurnEnd) (current : List ℕ) (next : Option Next) → is_some (next_of (record { current = current; next = next })) ≡ false →
    changes_text how (record { current = current; next = next }) ≡ false
without_next how current None none = none_changes how current
without_next how current (Some n) none = absurd cc

-- without a next one the text stays
pub text_stays : (how : TurnEnd) (s : SecretsState) → is_some (next_of s) ≡ false → false ≡ changes_text how s
text_stays how s none = sym (without_next how s.current s.next none)

dropped_keeps : (denied : Bool) (current : List ℕ) (n : Next) → is_none (next_of (secrets_dropped denied (record { current = current; next = Some n }))) ≡ false
dropped_keeps false current n = refl
dropped_keeps true current n = refl

opened_by_test : (tried : Bool) (current secret : List ℕ) →
    is_none (next_of (secrets_after turn_end.Opened (record { current = current; next = Some (record { secret = secret; is_tried = tried }) }))) ≡ tried
opened_by_test false current secret = refl
opened_by_test true current secret = refl

with_next : (how : TurnEnd) (current : List ℕ) (n : Next) →
    is_none (next_of (secrets_after how (record { current = current; next = Some n }))) ≡ changes_text how (record { current = current; next = Some n })
with_next turn_end.Half current n = refl
with_next turn_end.Opened current n = opened_by_test n.is_tried current n.secret
with_next (turn_end.Answer place verdict) current n = refl
with_next (turn_end.Dropped place cause) current n = dropped_keeps (is_denied cause) current n
with_next turn_end.Set current n = refl

some_next : (how : TurnEnd) (current : List ℕ) (next : Option Next) → is_some (next_of (record { current = current; next = next })) ≡ true →
    is_none (next_of (secrets_after how (record { current = current; next = next }))) ≡ changes_text how (record { current = current; next = next })
some_next how current None some = absurd cc
some_next how current (Some n) some = with_next how current n

-- with a next one it changes exactly where none is next any more
pub text_changes : (how : TurnEnd) (old new : SecretsState) → is_some (next_of old) ≡ true → new ≡ secrets_after how old →
    is_none (next_of new) ≡ changes_text how old
text_changes how old new some is = ap (λ (s : SecretsState). is_none (next_of s)) is ∙ some_next how old.current old.next some

-- ---- the texts

dropped_same : (denied : Bool) (current : List ℕ) (next : Option Next) →
    written_secrets (secrets_dropped denied (record { current = current; next = next })) ≡ written_secrets (record { current = current; next = next })
unfolding written_secrets
dropped_same false current next = refl
dropped_same true current None = refl
dropped_same true current (Some n) = refl

opened_same : (current secret : List ℕ) (tried : Bool) → tried ≡ false →
    written_secrets (secrets_after turn_end.Opened (record { current = current; next = Some (record { secret = secret; is_tried = tried }) }))
    ≡ written_secrets (record { current = current; next = Some (record { secret = secret; is_tried = tried }) })
opened_same current secret false unchanged = refl
opened_same current secret true unchanged = absurd cc

texts_same : (how : TurnEnd) (current : List ℕ) (next : Option Next) → changes_text how (record { current = current; next = next }) ≡ false →
    written_secrets (secrets_after how (record { current = current; next = next })) ≡ written_secrets (record { current = current; next = next })
texts_same turn_end.Half current next unchanged = refl
texts_same turn_end.Opened current None unchanged = refl
texts_same turn_end.Opened current (Some n) unchanged = opened_same current n.secret n.is_tried unchanged
texts_same (turn_end.Answer place verdict) current next unchanged = refl
texts_same (turn_end.Dropped place cause) current next unchanged = dropped_same (is_denied cause) current next
texts_same turn_end.Set current None unchanged = refl
texts_same turn_end.Set current (Some n) unchanged = absurd cc

-- a line of 32 digits and its newline
line_size : (secret : List ℕ) → length secret ≡ 16 → length (line_of secret) ≡ 33
line_size secret size = omega (arith, length-append (encode_lower secret) (newline ∷ []), length-encode_with lower_digits secret, size)

-- one line isn't two
fewer_lines : (current next : List ℕ) → length current ≡ 16 → length next ≡ 16 → line_of next ++ [] ≢ line_of current ++ line_of next
fewer_lines current next one other same = omega (
  arith,
  ap (λ (text : List ℕ). length text) same,
  length-append (line_of next) [],
  length-append (line_of current) (line_of next),
  line_size current one,
  line_size next other,
)

opened_differs : (current secret : List ℕ) (tried : Bool) → AreSecrets (record { current = current; next = Some (record { secret = secret; is_tried = tried }) }) → tried ≡ true →
    written_secrets (secrets_after turn_end.Opened (record { current = current; next = Some (record { secret = secret; is_tried = tried }) }))
    ≢ written_secrets (record { current = current; next = Some (record { secret = secret; is_tried = tried }) })
unfolding written_secrets
opened_differs current secret false are changed = absurd cc
opened_differs current secret true are changed = fewer_lines current secret are.0.0 are.1.0

texts_differ : (how : TurnEnd) (current : List ℕ) (next : Option Next) → AreSecrets (record { current = current; next = next }) →
    changes_text how (record { current = current; next = next }) ≡ true →
    written_secrets (secrets_after how (record { current = current; next = next })) ≢ written_secrets (record { current = current; next = next })
unfolding written_secrets
texts_differ turn_end.Half current next are changed = absurd cc
texts_differ turn_end.Opened current None are changed = absurd cc
texts_differ turn_end.Opened current (Some n) are changed = opened_differs current n.secret n.is_tried are changed
texts_differ (turn_end.Answer place verdict) current next are changed = absurd cc
texts_differ (turn_end.Dropped place cause) current next are changed = absurd cc
texts_differ turn_end.Set current None are changed = absurd cc
texts_differ turn_end.Set current (Some n) are changed = fewer_lines current n.secret are.0.0 are.1.0

pub tells_texts_apart : TellsTextsApart
tells_texts_apart = record {
  same = λ how s unchanged. texts_same how s.current s.next unchanged;
  another = λ how s are changed. texts_differ how s.current s.next are changed;
}

pub ruleset replacing = (text_stays, text_changes)

-- ---- what the channel is given

-- a turn can start only where none is out
pub no_turn_out : (turn : Option Pending) (waiting : List Waiting) → can_start turn waiting ≡ true → turn ≡ None
no_turn_out (Some p) waiting starts = absurd cc
no_turn_out None waiting starts = refl

pub channel_is_none : (how : Standing) → needs_challenge how ≡ true → how ≡ standing.Nothing
channel_is_none standing.Nothing needs = refl
channel_is_none (standing.Half client server) needs = absurd cc
channel_is_none (standing.Open o) needs = absurd cc

pub ruleset giving = (no_turn_out, channel_is_none)
