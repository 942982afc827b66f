-- Which numbers the requests on a secure channel have (MS-NRPC 3.1.4.1, C706 12.6.3.1; what is claimed is this
-- project's own choice).
use Rattle.std.specs.Prelude.{ℕ, ◌≡◌, Some, slice_get}
use Rattle.authenticators.specs.Channels.{ChannelIdentity}
use Rattle.channel_events.specs.Requests.{IsRequest}
use Rattle.step_notes.specs.Records.{Sent}
use Rattle.domain_world.specs.Past.{Past}

-- Of the units that were made as requests on channels with one client's challenge, be they openings or calls, no two
-- have one number. So a reply on a channel, which has a number, is to one request.
abbrev pub RequestsHaveNumbers : Past → Type 0
RequestsHaveNumbers past =
    (n m number : ℕ) (c d : ChannelIdentity) (one other : Sent) → slice_get past.book.sent n ≡ Some one → slice_get past.book.sent m ≡ Some other →
    IsRequest c number one.mark → IsRequest d number other.mark → c.client ≡ d.client → n ≡ m
