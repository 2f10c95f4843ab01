use Rattle.std.proofs.Common.{ℕ, sym, subst, IfSome}
use Rattle.std.specs.Option.{option_map}
use Rattle.uac_alt.specs.AltStreams.{stream_fields}
use Rattle.uac_host.specs.HostCalls.{IsStreamOf}
use Rattle.uac_streaming.specs.StreamingWorld.{after_following}
use Rattle.uac_streaming.specs.StreamingKept.{StreamingStands}
use Rattle.uac_streaming.proofs.StreamingKeptHostLemmas.{followed_nowhere, number_is}
use Rattle.uac_streaming.proofs.streaming.Streaming.follow.Goals as goal

pub set_stream-requires-clause-begun : goal.set_stream-requires-clause-begun
set_stream-requires-clause-begun c =
    let own = number_is c.args.function.now c.args.interface c.in-Some.number c.in-Some.ensures in
    subst (λ (n : ℕ). IfSome c.args.begun (λ s. IsStreamOf c.args.function.now n (stream_fields s))) (sym own) c.requires

pub returns-in-Some : goal.returns-in-Some
returns-in-Some c d w stands same =
    let own = number_is c.args.function.now c.args.interface c.in-Some.number c.in-Some.ensures in
    subst (λ (n : ℕ). StreamingStands c.set_stream.new.self d (after_following n (option_map stream_fields c.args.begun) w)) own (c.set_stream.ensures d w stands same)

pub returns-in-None : goal.returns-in-None
returns-in-None c d w stands same =
    followed_nowhere c.args.self.now d w c.args.function.now c.args.interface c.args.begun stands same c.requires c.in-None.ensures
