use Rattle.std.proofs.Common.{◌≡◌, arith}
use Rattle.trust.proofs.Relations.{suspicion-made}
use Rattle.trust.proofs.suspicion.suspicion.Goals as goal

pub returns : goal.returns
returns c =
    let all : c.loop-domain.domain ≡ c.from-domains.result = omega arith in
    rw (
      c.spread.ensures,
      c.loop-domain.invariant,
      all,
      c.from-domains.ensures,
      c.domains.ensures.value,
      c.new-found.ensures,
      c.new-rows.ensures,
      c.lay.ensures,
      c.new-lying.ensures,
      c.requires,
    ) (suspicion-made _ c.domains.ensures.good)
