use Rattle.derivation.proofs.Deriving.{monotone, cut_stands, stays_closed, stays_message, sealed_secret}
use Rattle.derivation.proofs.derivation_stands.Goals as goal

pub returns : goal.returns
returns c = record { grows = monotone; cuts = cut_stands; closed = stays_closed; messages = stays_message; secret = sealed_secret }
