-- The status that a program ends with: 1 if what it was given is at fault, 3 if it could not go on,
-- 4 if it did and what it found is wrong.
use Rattle.std.specs.Prelude.{ℕ}
use Rattle.eden_stream.specs.declared.lines.RunFault.TheVariants as ran
use Rattle.eden_serve.specs.declared.fault.DaemonFault.{DaemonFault}
use Rattle.eden_serve.specs.declared.fault.DaemonFault.TheVariants as daemon
use Rattle.eden_connect.specs.declared.fault.ConnectFault.{ConnectFault}
use Rattle.eden_connect.specs.declared.fault.ConnectFault.TheVariants as connect
use Rattle.eden_demo.specs.declared.fault.DemoFault.{DemoFault}
use Rattle.eden_demo.specs.declared.fault.DemoFault.TheVariants as demo

-- of `edend`
abbrev pub daemon_status : DaemonFault → ℕ
daemon_status (daemon.Script (ran.BadLine number)) = 1
daemon_status (daemon.Script ran.Read) = 3
daemon_status (daemon.Script ran.Write) = 3
daemon_status (daemon.Script ran.TurnsSpent) = 3
daemon_status (daemon.Script ran.NoMemory) = 3
daemon_status daemon.NoConnection = 3
daemon_status (daemon.Audit fault) = 4

-- of `follow connect`
abbrev pub connect_status : ConnectFault → ℕ
connect_status connect.Unplaced = 1
connect_status connect.Write = 3
connect_status connect.NoConnection = 3
connect_status connect.NoMemory = 3

-- of `follow demo`
abbrev pub demo_status : DemoFault → ℕ
demo_status demo.Write = 3
demo_status demo.NoMemory = 3
demo_status demo.NoConnection = 3
demo_status (demo.Refused fault) = 4
demo_status demo.Differ = 4
