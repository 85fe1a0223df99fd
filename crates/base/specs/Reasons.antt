-- Which reason the system tells by an error of a device (POSIX, errno.h; the kinds are those of Rust's `std::io::ErrorKind`).
use Rattle.std.specs.Prelude.{ℤ, Option, Some, option_map}
use Rattle.std.specs.declared.io.ErrorKind.{ErrorKind}
use Rattle.std.specs.declared.io.ErrorKind.TheVariants as kind
use Rattle.base.specs.declared.reasons.Reason.{Reason}
use Rattle.base.specs.declared.reasons.Reason.TheVariants as reason

-- the reason of an error of a kind, which may have a number
unfoldable pub reason_of : ErrorKind → Option ℤ → Option Reason
reason_of kind.NotFound number = Some reason.NoSuchFile
reason_of kind.IsADirectory number = Some reason.IsFolder
reason_of kind.NotADirectory number = Some reason.NotUnderFolder
reason_of kind.PermissionDenied number = Some reason.PermissionDenied
reason_of kind.ReadOnlyFilesystem number = Some reason.ReadOnlyFileSystem
reason_of kind.StorageFull number = Some reason.NoSpaceLeft
reason_of kind.QuotaExceeded number = Some reason.QuotaExceeded
reason_of kind.FileTooLarge number = Some reason.FileTooLarge
reason_of kind.BrokenPipe number = Some reason.ClosedByReader
reason_of kind.InvalidFilename number = Some reason.NameTooLong
reason_of kind.FilesystemLoop number = Some reason.TooManyLinks
reason_of kind.AlreadyExists number = Some reason.AlreadyThere
reason_of kind.Interrupted number = Some reason.Interrupted
reason_of _ number = option_map (λ n. reason.Number n) number
