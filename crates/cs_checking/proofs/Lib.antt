pub mod SafeNumbers
mod SoundFiles
