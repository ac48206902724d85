mod Tills
mod Sent
mod UnderSerial
