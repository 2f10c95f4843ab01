-- The life of one stream: what happens once in a row, and what a microframe makes of it.
pub mod TellingTurnLemmas
pub mod RunningWorldKeptLemmas
pub mod LifeTurnLemmas
pub mod LifeTickLemmas
pub mod ProjectionLifeLemmas
pub mod ProjectionKeptLemmas
pub mod ProjectionPacketLemmas
pub mod ProjectionLemmas
pub mod LevelsMicroframeLemmas
pub mod FlowStreamsLemmas
pub mod LifeSteadyLemmas
pub mod BandsLemmas
pub mod RunningWorldRestLemmas
pub mod BandRunLemmas
pub mod RunningWorldLineLemmas
pub mod BandRunEmptyLemmas
pub mod BandRunLevelLemmas
pub mod BeginningsLemmas
pub mod BandRunEarlierLemmas
pub mod AltStreamsLemmas
pub mod BandTransfersRequestLemmas
pub mod BandTransfersBandLemmas
pub mod BandTransfersRunLemmas
pub mod BandTransfersLemmas
pub mod BandTransfersStartLemmas
-- Streams from the device, one by one: what packets, ticks and ends of microframes make of their rings, and that none is full.
pub mod RecordingRestLemmas
pub mod RecordingStreamLemmas
pub mod RecordingFullLemmas
pub mod RecordingLemmas
pub mod RulesClockLemmas
pub mod RecordingTransferLemmas
-- Streams that come home: one interval, one life, and the streams of a run.
pub mod PastLemmas
pub mod HomingTrailLemmas
pub mod HomingLemmas
pub mod HomingTransferLemmas
