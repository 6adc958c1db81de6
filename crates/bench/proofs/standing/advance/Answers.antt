use Rattle.std.proofs.Common.{◌+◌, ap, ◌∙◌}
use Rattle.bench.specs.declared.standing.Standing.{Standing}
use Rattle.bench.proofs.Standings.{advanced_strands, advanced_next}
use Rattle.bench.proofs.standing.advance.Goals as goal

pub returns-clause-strands : goal.returns-clause-strands
returns-clause-strands c = advanced_strands _ _ _ c.index_mut.result.now (c.advance.ensures.strand ∙ ap (λ (s : Standing). s.strand) c.index_mut.ensures.value)

pub returns-clause-next : goal.returns-clause-next
returns-clause-next c = advanced_next _ _ _ c.index_mut.result.now c.requires.held (c.advance.ensures.next ∙ ap (λ (s : Standing). s.next + 1) c.index_mut.ensures.value)
