-- Which texts can be the path of a socket.
use Rattle.std.specs.Prelude.{ℕ, Bool, List, length, Option, None, Some, not, ◌&&◌, ◌==◌, nat_lt, if◌then◌else◌}
use Rattle.std.specs.List.{list_all}
use Rattle.eden_sockets.specs.declared.socket_path.SocketPathFault.{SocketPathFault}
use Rattle.eden_sockets.specs.declared.socket_path.SocketPathFault.TheVariants.{Empty, TooLong, BadByte}

-- any byte but NUL, which ends a path of the system's, and a line feed, which ends a line that names the path
abbrev pub is_path_byte : ℕ → Bool
is_path_byte byte = not (byte == 0) && not (byte == 10)

-- why a text can't be the path of a socket: the first cause
abbrev pub socket_path_fault : List ℕ → Option SocketPathFault
socket_path_fault text =
    if length text == 0 then Some Empty
    else if nat_lt 101 (length text) then Some TooLong
    else if not (list_all is_path_byte text) then Some BadByte
    else None
