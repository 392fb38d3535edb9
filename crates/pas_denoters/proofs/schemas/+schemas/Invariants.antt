use Rattle.std.proofs.Common.{◌*◌, ◌+◌}
use Rattle.pas_denoters.proofs.schemas.+schemas.Given as goal

abbrev pub decreases-read_unpacked_schema : goal.decreases-read_unpacked_schema
decreases-read_unpacked_schema l = 4 * l.depth + 2

abbrev pub decreases-read_formal_type : goal.decreases-read_formal_type
decreases-read_formal_type l = 4 * l.depth + 1

abbrev pub decreases-read_schema : goal.decreases-read_schema
decreases-read_schema l = 4 * l.depth
