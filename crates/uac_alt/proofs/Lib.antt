pub mod AltSettingsLemmas
pub mod AltStreamsLemmas
pub mod FormedLemmas
pub mod AltStreamsFoundLemmas
pub mod AltStreamsPacketLemmas
