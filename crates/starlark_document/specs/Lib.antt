pub mod Documents
pub mod Inner
pub mod Utf16Places
pub use Rattle.starlark_devices.specs.Calls
