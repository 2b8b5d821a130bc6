-- Which fault an error of the system is.
use Rattle.std.specs.Prelude.{◌≡◌, ◌≢◌}
use Rattle.std.specs.IoError.{error_kind}
use Rattle.std.specs.declared.io.Error.{Error}
use Rattle.std.specs.declared.io.ErrorKind.TheVariants.{AddrInUse}
use Rattle.eden_sockets.specs.declared.listener.ListenFault.{ListenFault}
use Rattle.eden_sockets.specs.declared.listener.ListenFault.TheVariants.{InUse, System}

-- `AddrInUse` has a name of its own, and any other error is kept as it is
pub record IsFaultOf (error : Error) (fault : ListenFault) : Type 0 where
  pub in_use : error_kind error ≡ AddrInUse → fault ≡ InUse
  pub system : error_kind error ≢ AddrInUse → fault ≡ System error
