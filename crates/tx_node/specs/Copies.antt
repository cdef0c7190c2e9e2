-- Where the copies stand that leaders make of a box (TeX: The Program, sections 626, 627, 635 and 636). W is how long the box is along
-- the list, R how long the leaders are once glue is set.
use Rattle.std.specs.Prelude.{ℕ, ◌+◌, ◌-◌, ◌/◌, ◌%◌, ◌&&◌, ℤ, pos, int_lt, unsigned_abs, if◌then◌else◌}
use Rattle.std.specs.Int.{is_positive}
use Rattle.tx_node.specs.declared.places.Copies.{Copies}
use Rattle.tx_node.specs.declared.plain.LeadersKind.{LeadersKind}
use Rattle.tx_node.specs.declared.plain.LeadersKind.TheVariants.{Aligned, Centered, Expanded}

-- how far it is from where the leaders begin to the next whole multiple of W from the edge of the box around, behind which, or less
-- than 0 before which, they begin so far
abbrev pub ahead : ℤ → ℕ → ℕ
ahead from w = if int_lt from (pos 0) then unsigned_abs from % w else (w - unsigned_abs from % w) % w

-- \leaders: at whole multiples of W from that edge, the first of which is so far ahead, as many as fit
abbrev pub aligned : ℕ → ℕ → ℕ → Copies
aligned before r w = record { before = before; step = w; count = (r - before) / w }

-- \cleaders: R div W side by side, with half of what they leave before them
abbrev pub centered : ℕ → ℕ → Copies
centered r w = record { before = (r % w) / 2; step = w; count = r / w }

-- \xleaders: n = R div W, and what they leave in n + 1 equal gaps, between them and at both ends, with half of the remainder too
-- before the first: in all ((R mod W) - (n - 1) gap) div 2 stand there
abbrev pub gap : ℕ → ℕ → ℕ
gap r w = (r % w) / (r / w + 1)

abbrev pub expanded : ℕ → ℕ → Copies
expanded r w = record { before = gap r w + ((r % w) % (r / w + 1)) / 2; step = w + gap r w; count = r / w }

abbrev pub copies_by : LeadersKind → ℕ → ℕ → ℕ → Copies
copies_by Aligned before r w = aligned before r w
copies_by Centered before r w = centered r w
copies_by Expanded before r w = expanded r w

-- there are none unless W and R are both positive
abbrev pub no_copies : Copies
no_copies = record { before = 0; step = 0; count = 0 }

unfoldable pub copies_of : LeadersKind → ℤ → ℤ → ℤ → Copies
copies_of kind from r w =
    if is_positive r && is_positive w then copies_by kind (ahead from (unsigned_abs w)) (unsigned_abs r) (unsigned_abs w) else no_copies
