-- `key_parts::shared_key` meets its contract: the part is cut off the first key where the two part.
use Rattle.std.proofs.Common.{sym, length-take-le}
use Rattle.key_parts.specs.Shared.{shared_within}
use Rattle.key_parts.proofs.shared_key.Goals as goal

pub slice_bounds-result-end : goal.slice_bounds-result-end
slice_bounds-result-end c = sym (length-take-le _ _ (rw c.shared_length-n.ensures (shared_within _ _)))
