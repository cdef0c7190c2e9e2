-- Characters that join an open text as they stand.
pub use Rattle.tx_parts.proofs.Ordinary.{is_ordinary, ordinary-joins, ordinary-open, seen, some-joined}
