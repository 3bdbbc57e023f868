pub mod ReceiverLaw
pub mod TimerLaw
pub mod TransmitterLaw
