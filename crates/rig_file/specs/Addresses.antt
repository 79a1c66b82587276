-- The bytes that a client's address is known by.
use Rattle.std.specs.Prelude.{ℕ, List}
use Rattle.std.specs.declared.net.ip_addr.IpAddr.{IpAddr}
use Rattle.std.specs.declared.net.ip_addr.IpAddr.TheVariants.{V4, V6}
use Rattle.std.specs.Net.Addr.{embedded_segments, octets_of, ipv6_octets}

-- an IPv4 address in its mapped form, ten zeros and two bytes 255 before its own; an IPv6 address as it is
abbrev pub known_as : IpAddr → List ℕ
known_as (V4 a) = octets_of (embedded_segments 0xffff a)
known_as (V6 a) = ipv6_octets a
