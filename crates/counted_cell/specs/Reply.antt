-- What adding a share may return.
use Rattle.std.specs.Prelude.{◌≡◌, ◌<◌, ℕ}
use Rattle.counted_cell.specs.Cell.{Cell}
use Rattle.counted_cell.specs.declared.reply.ShareReply.{ShareReply}
use Rattle.counted_cell.specs.declared.reply.ShareReply.TheVariants.{Added, Dying, Full}

-- a share of this very cell, and that the count was one or more and below the limit; or that no share of it is left; or that it has as
-- many as it may have. If no share was added, the permit of this number is there again
abbrev pub IsReply : Cell → ℕ → ShareReply → Type 0
IsReply cell permit (Added share reading) = (share.cell ≡ cell) × (reading.name ≡ cell.name) × (0 < reading.count) × (reading.count < cell.name.limit)
IsReply cell permit (Dying none back) = (none ≡ cell.name) × (back.name ≡ cell.name) × (back.number ≡ permit)
IsReply cell permit (Full full back) = (full ≡ cell.name) × (back.name ≡ cell.name) × (back.number ≡ permit)
